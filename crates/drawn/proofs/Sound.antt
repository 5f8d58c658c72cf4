-- What an accepted text says of its drawing: ceilings, resets, none of 20, 21 and 22; so the table is legal. Assumes nothing.
use mathlib.Core.Path.{◌≡◌, refl, sym, ap, ◌∙◌}
use mathlib.Core.List.{List}
use Prim.Native.Nat.{ℕ, zero, suc, ◌+◌, ◌*◌, ◌≤◌, ◌<◌}
use native.Mathlib.Nat.{le_of_suc-le-suc, not-suc-le-zero}
use native.Mathlib.Omega.{arith}
use borrow.Author.Tests.{leb-true}
use lib.ListN.{get_or}
use Rattle.circuit.specs.RulesInCode.{Bounded, Legal}
use Rattle.circuit.specs.declared.Counts.{Counts}
use Rattle.circuit.specs.Table.{Kind, input, latch, several, kinds, literal_tests}
use Rattle.circuit.proofs.Refusals.{passed_append}
use Rattle.text.specs.Outcome.{accepted}
use Rattle.text.specs.Text.{reset_word, words, Lines, read_lines, counts_of, ending_of}
use Rattle.text.proofs.Steps.{line_accepted}
use Rattle.drawn.specs.Drawing.{Drawing, reset, drawing_tests, table}
use Rattle.drawn.specs.Lines.{any_tests, drawing, after_tests, read_any}
use Rattle.drawn.proofs.Proper.{Proper, proper}
use Rattle.drawn.proofs.Tables.{table_legal}
use Rattle.drawn.proofs.Reading.{any_numbered, drawing_accepted, text_accepted, any_header}

-- ---- what that says of the drawing

module _ (ending : List ℕ) (most : ℕ) where
  -- lines without words in front of others
  inputs_read : (own n : ℕ) (ks : List Kind) (t : List ℕ) {l : Lines} → read_lines ending (any_tests most) (several input own n ks) t ≡ accepted l
      → (r : List ℕ) × (m : Lines) × (read_lines ending (any_tests most) ks r ≡ accepted m) × (l.words ≡ m.words)
  unfolding several words
  inputs_read own zero ks t {l} a = (t, l, a, refl)
  inputs_read own (suc n) ks t a =
      let f = line_accepted ending (any_tests most) (input own) (several input (own + 2) n ks) t (any_numbered most (input own)) a in
      let g = inputs_read (own + 2) n ks f.behind f.on in
      (g.0, g.1, g.2, sym (ap (λ (l : Lines). l.words) f.gives) ∙ g.3)

  latches_read : (own n : ℕ) (ks : List Kind) (t : List ℕ) {l : Lines} → read_lines ending (any_tests most) (several latch own n ks) t ≡ accepted l → (i : ℕ) → i < n → get_or l.words (2 * i + 1) 0 ≤ 2
  unfolding several words any_tests literal_tests
  latches_read own zero ks t a i h = absurd (not-suc-le-zero h)
  latches_read own (suc n) ks t a zero h =
      let f = line_accepted ending (any_tests most) (latch own) (several latch (own + 2) n ks) t (any_numbered most (latch own)) a in
      rw (← f.gives) (leb-true (reset_word (get_or f.numbers 0 0) (get_or f.numbers 2 0)) 2 f.passes.1.1.0)
  latches_read own (suc n) ks t a (suc i) h =
      let f = line_accepted ending (any_tests most) (latch own) (several latch (own + 2) n ks) t (any_numbered most (latch own)) a in
      let e : 2 * suc i + 1 ≡ suc (suc (2 * i + 1)) = omega arith in
      rw (e, ← f.gives) (latches_read (own + 2) n ks f.behind f.on i (le_of_suc-le-suc h))

-- An accepted drawing: within the ceilings, with resets 0, 1 or 2, and refused by none of 20, 21 and 22
pub record Sound (d : Drawing) : Type 0 where
  pub bounded : Bounded d.counts
  pub most : d.most ≤ 4095
  pub resets : (i : ℕ) → i < d.counts.latches → reset d i ≤ 2
  pub proper : Proper d

pub accepted_sound : (t : List ℕ) {d : Drawing} → read_any t ≡ accepted d → Sound d
unfolding read_any after_tests kinds
accepted_sound t {d} a =
    let ending : List ℕ = ending_of t in
    let f = text_accepted ending t a in
    let m : ℕ = get_or f.numbers 0 0 in
    let c : Counts = counts_of f.numbers in
    let h = any_header f.numbers f.passes in
    let q = drawing_accepted ending m c f.rest f.on in
    let g = inputs_read ending (2 * m + 1) 2 c.inputs _ f.rest q.1 in
    rw (← q.3) (record {
      bounded = h.0;
      most = h.1;
      resets = λ i h. rw g.3 (latches_read ending (2 * m + 1) _ c.latches _ g.0 g.2 i h);
      proper = proper (drawing m c q.0) (passed_append (drawing_tests (drawing m c q.0)) _ q.2).0;
    })

-- rule 7 and the others hold of the table
pub accepted_legal : (t : List ℕ) {d : Drawing} → read_any t ≡ accepted d → Legal d.counts (table d)
accepted_legal t {d} a = let s = accepted_sound t a in table_legal d s.proper s.bounded s.resets

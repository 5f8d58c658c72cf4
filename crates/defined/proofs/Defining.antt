-- Laws of 21: the four kinds of literal, and that each is in the words. Assumes nothing.
use mathlib.Core.Path.{◌≡◌, sym, ap, ap₂, ◌∙◌}
use mathlib.Core.Bool.{Bool, true, false, ◌&&◌}
use mathlib.Core.List.{List}
use Prim.Native.Nat.{ℕ, ◌+◌, ◌*◌, ◌<◌}
use native.Mathlib.Omega.{arith}
use lib.ListN.{length, get_or}
use native.Mathlib.Nat.{zero-add}
use Rattle.std.specs.Bool.{MatchBool}
use Rattle.std.specs.List.{range_with_len, AllWithin, HoldsAt}
use Rattle.std.proofs.lemmas.List.FromFn.{length-range_with_len, get_or-range_with_len}
use Rattle.three.specs.Lists.{every}
use Rattle.three.proofs.Lists.{every_ext, every_all, every_fails}
use Rattle.circuit.specs.Table.{literals_at, gates_at, literals}
use Rattle.circuit.specs.declared.Counts.{Counts}
use Rattle.pass.specs.ValuesInCode.{Readable}
use Rattle.circuit.proofs.Rules.{and_fails, and_holds}
use Rattle.drawn.specs.Drawing.{Drawing, defined, all_defined}
use Rattle.defined.specs.Places.{Spoken}

-- ---- the literals are in the words

module _ (c : Counts) (words : List ℕ) (s : Spoken c words) where
  pub next_readable : Readable words 0 2 c.latches
  next_readable = record { long = λ i h. omega (arith, s.long); small = λ i h. s.literals (0 + 2 * i) (omega arith) }

  pub literals_readable : Readable words (literals_at c) 1 (literals c)
  literals_readable = record { long = λ i h. omega (arith, s.long); small = λ i h. s.literals (literals_at c + 1 * i) (omega arith) }

  pub left_readable : Readable words (gates_at c) 2 c.gates
  left_readable = record { long = λ i h. omega (arith, s.long); small = λ i h. s.literals (gates_at c + 2 * i) (omega arith) }

  pub right_readable : Readable words (gates_at c + 1) 2 c.gates
  right_readable = record { long = λ i h. omega (arith, s.long); small = λ i h. s.literals (gates_at c + 1 + 2 * i) (omega arith) }

-- ---- whether all of a range hold, from what a search of it found

pub all_of_range : (n : ℕ) (p : ℕ → Bool) (r : Bool)
    → MatchBool r (AllWithin (λ i. p i ≡ true) (range_with_len 0 n) 0 (length (range_with_len 0 n))) ((k : ℕ) × (k < length (range_with_len 0 n)) × HoldsAt (λ i. p i ≡ false) (range_with_len 0 n) k)
    → r ≡ every n p
all_of_range n p true h =
    sym (every_all n p (λ i l. sym (ap p (get_or-range_with_len 0 n i 0 l ∙ zero-add i)) ∙ h i 0 (omega arith) (omega (arith, length-range_with_len 0 n))))
all_of_range n p false (k, l, h) =
    let within : k < n = omega (arith, length-range_with_len 0 n) in
    sym (every_fails n p k within (sym (ap p (get_or-range_with_len 0 n k 0 within ∙ zero-add k)) ∙ h 0))

-- ---- 21 is the four of them

module _ (d : Drawing) where
  abbrev asked : ℕ → ℕ → ℕ → Bool
  asked at step count = every count (λ i. defined d (get_or d.words (at + step * i) 0))

  pub all_asked : all_defined d ≡ (asked 0 2 d.counts.latches && (asked (literals_at d.counts) 1 (literals d.counts)
      && (asked (gates_at d.counts) 2 d.counts.gates && asked (gates_at d.counts + 1) 2 d.counts.gates)))
  unfolding all_defined
  all_asked =
      ap₂ (λ (a b : Bool). a && b) (every_ext d.counts.latches _ _ (λ i h. at (2 * i) (0 + 2 * i) (omega arith)))
      (ap₂ (λ (a b : Bool). a && b) (every_ext (literals d.counts) _ _ (λ i h. at (literals_at d.counts + i) (literals_at d.counts + 1 * i) (omega arith)))
      (ap (λ (b : Bool). asked (gates_at d.counts) 2 d.counts.gates && b) (every_ext d.counts.gates _ _ (λ i h. at (gates_at d.counts + 2 * i + 1) (gates_at d.counts + 1 + 2 * i) (omega arith)))))
    where
      at : (k m : ℕ) → k ≡ m → defined d (get_or d.words k 0) ≡ defined d (get_or d.words m 0)
      at k m e = ap (λ (n : ℕ). defined d (get_or d.words n 0)) e

  -- what is answered, kind by kind
  pub next_undefined : {a : Bool} → a ≡ asked 0 2 d.counts.latches → a ≡ false → false ≡ all_defined d
  next_undefined e f = and_fails _ (sym e ∙ f) ∙ sym all_asked

  pub literal_undefined : {a b : Bool} → a ≡ asked 0 2 d.counts.latches → a ≡ true → b ≡ asked (literals_at d.counts) 1 (literals d.counts) → b ≡ false → false ≡ all_defined d
  literal_undefined e f g h = and_fails _ (sym g ∙ h) ∙ and_holds _ (sym e ∙ f) ∙ sym all_asked

  pub left_undefined : {a b l : Bool} → a ≡ asked 0 2 d.counts.latches → a ≡ true → b ≡ asked (literals_at d.counts) 1 (literals d.counts) → b ≡ true
      → l ≡ asked (gates_at d.counts) 2 d.counts.gates → l ≡ false → false ≡ all_defined d
  left_undefined e f g h i j = and_fails _ (sym i ∙ j) ∙ and_holds _ (sym g ∙ h) ∙ and_holds _ (sym e ∙ f) ∙ sym all_asked

  pub rights_decide : {a b l r : Bool} → a ≡ asked 0 2 d.counts.latches → a ≡ true → b ≡ asked (literals_at d.counts) 1 (literals d.counts) → b ≡ true
      → l ≡ asked (gates_at d.counts) 2 d.counts.gates → l ≡ true → r ≡ asked (gates_at d.counts + 1) 2 d.counts.gates → r ≡ all_defined d
  rights_decide e f g h i j k = k ∙ and_holds _ (sym i ∙ j) ∙ and_holds _ (sym g ∙ h) ∙ and_holds _ (sym e ∙ f) ∙ sym all_asked

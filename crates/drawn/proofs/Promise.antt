-- What is promised of a text in any order: an accepted one is made into a legal table that behaves as the text does, its gates by depth, and
-- 22 is given exactly where gates loop. Assumes nothing.
use mathlib.Core.Path.{◌≡◌, refl, sym, ap, ◌∙◌}
use mathlib.Core.Bool.{Bool, true}
use mathlib.Core.Logic.{◌↔◌}
use mathlib.Core.List.{List, [], ◌∷◌, map}
use Prim.Native.Nat.{ℕ, zero, suc, ◌<◌, ◌≤◌, max}
use native.Mathlib.Omega.{arith}
use lib.ListN.{length}
use Rattle.three.specs.Lists.{every, tabulate}
use Rattle.three.proofs.Lists.{by_test, map_tabulate}
use Rattle.text.specs.OutcomeInCode.{after}
use Rattle.circuit.specs.RulesInCode.{Passed, Legal}
use Rattle.circuit.specs.Refusal.{Test, ◌or◌, refusal}
use Rattle.circuit.specs.declared.Counts.{Counts}
use Rattle.circuit.specs.Circuit.{next, Latch, Circuit}
use Rattle.circuit.specs.Table.{circuit_of}
use Rattle.three.specs.Value.{boolean}
use Rattle.circuit.proofs.Refusals.{Numbered, stops, past, none, passes, refusal_append, append_past}
use Rattle.text.specs.Outcome.{Outcome, accepted, refused, tested, onward}
use Rattle.text.specs.Text.{ends, Lines, Content, read_text}
use Rattle.text.proofs.Outcomes.{refused_accepted, tested_stops}
use Rattle.drawn.specs.Depth.{depth, deep}
use Rattle.drawn.specs.Drawing.{Drawing, lines, left_source, right_source, gate_order, once, all_defined, drawing_tests, table, reset, renumbered}
use Rattle.drawn.specs.Meaning.{Shown, shown_by, Behaves, Follows, Looped}
use Rattle.drawn.specs.Lines.{body_of, drawing, after_tests, read_drawing, read_any}
use Rattle.drawn.proofs.Loops.{depth_gate}
use Rattle.drawn.proofs.Sorting.{Sorted}
use Rattle.drawn.proofs.Naming.{gates_sorted}
use Rattle.drawn.proofs.Ticks.{behaviour}
use Rattle.drawn.proofs.Refused.{gives_22}
use Rattle.drawn.proofs.Plain.{PlainDrawing, plain_accepted}
use Rattle.drawn.proofs.Twins.{next_twins, shown_twins}
use Rattle.drawn.proofs.Reading.{drawing_lines}
use Rattle.drawn.proofs.Tables.{drawn_circuit, table_circuit}
use Rattle.drawn.proofs.Kept.{table_kept, list_kept}
use Rattle.drawn.proofs.Sound.{accepted_legal, accepted_sound}

-- ---- an accepted text

module _ (t : List ℕ) (d : Drawing) (a : read_any t ≡ accepted d) where
  pub legal : Legal d.counts (table d)
  legal = accepted_legal t a

  -- for every sequence of switch settings the states, lamps, bad states and constraints of the text are those of the table, tick by tick
  pub same_behaviour : (switches states : ℕ → List Bool) (shows : ℕ → Shown) → ((t : ℕ) → length (switches t) ≡ d.counts.inputs) → length (states 0) ≡ d.counts.latches
      → Behaves d switches states shows ↔ Follows d switches states shows
  same_behaviour switches states shows set begins = behaviour d (accepted_sound t a).proper switches states shows set begins

  -- all gates, each once, by depth and then in file order
  pub by_depth : Sorted d.counts.gates (deep (left_source d) (right_source d) d.counts.gates) (gate_order d)
  by_depth = gates_sorted d (accepted_sound t a).proper

  -- where depth is one more than the deeper operand's
  pub depth_is : (i : ℕ) → i < d.counts.gates → deep (left_source d) (right_source d) d.counts.gates i
      ≡ suc (max (depth (left_source d) (right_source d) (suc d.counts.gates) (left_source d i)) (depth (left_source d) (right_source d) (suc d.counts.gates) (right_source d i)))
  unfolding deep
  depth_is i h = let s = (accepted_sound t a).proper.shallow i h in depth_gate (left_source d) (right_source d) (suc d.counts.gates) i (omega (arith, s))

-- both start in the same states: latch i has the reset that its line gives it
pub same_resets : (d : Drawing) → map (λ (l : Latch). l.reset) (circuit_of d.counts (table d)).latches ≡ tabulate d.counts.latches (reset d)
unfolding drawn_circuit
same_resets d = ap (λ (c : Circuit). map (λ (l : Latch). l.reset) c.latches) (table_circuit d) ∙ map_tabulate (λ (l : Latch). l.reset) d.counts.latches _

-- ---- a text that the plain reader accepts

pub accepts_plain : (t : List ℕ) {c : Content} → read_text t ≡ accepted c → PlainDrawing t c
accepts_plain t a = plain_accepted t a

-- under any switches and in any state both tables have the same next state and show the same
module _ (t : List ℕ) (c : Content) (p : PlainDrawing t c) (r s : List Bool) where
  pub plain_twins : length r ≡ c.counts.inputs → length s ≡ c.counts.latches
      → (next boolean (circuit_of c.counts (table p.drawn)) r s ≡ next boolean (circuit_of c.counts c.words) r s)
      × (shown_by (circuit_of c.counts (table p.drawn)) r s ≡ shown_by (circuit_of c.counts c.words) r s)
  plain_twins i l = moved p.counts_same p.words_same (
    next_twins p.drawn p.proper p.due p.lawful r s (rw p.counts_same i) (rw p.counts_same l),
    shown_twins p.drawn p.proper p.due p.lawful r s (rw p.counts_same i) (rw p.counts_same l),
  )
    where
      moved : {n n' : Counts} {ws ws' : List ℕ} → n ≡ n' → ws ≡ ws'
          → (next boolean (circuit_of n (table p.drawn)) r s ≡ next boolean (circuit_of n ws) r s) × (shown_by (circuit_of n (table p.drawn)) r s ≡ shown_by (circuit_of n ws) r s)
          → (next boolean (circuit_of n' (table p.drawn)) r s ≡ next boolean (circuit_of n' ws') r s) × (shown_by (circuit_of n' (table p.drawn)) r s ≡ shown_by (circuit_of n' ws') r s)
      moved e f q = rw (← e, ← f) q

-- where its gates stand by depth already, the table is the plain one, and every variable keeps its number
module _ {t : List ℕ} {c : Content} (p : PlainDrawing t c)
    (standing : (i k : ℕ) → i < k → k < p.drawn.counts.gates → deep (left_source p.drawn) (right_source p.drawn) p.drawn.counts.gates i ≤ deep (left_source p.drawn) (right_source p.drawn) p.drawn.counts.gates k) where
  pub plain_kept : table p.drawn ≡ c.words
  plain_kept = table_kept p.drawn p.proper standing p.due p.lawful p.whole ∙ p.words_same

  pub names_kept : renumbered p.drawn ≡ tabulate (suc (lines p.drawn)) (λ v. v)
  names_kept = list_kept p.drawn p.proper standing p.due p.most_same

-- ---- 22

refused_same : {A : Type 0} {m n : ℕ} → ◌≡◌ {A = Outcome A} (refused m) (refused n) → m ≡ n
refused_same e = cc

tested_refused : {A B : Type 0} (f : A → B) (a : A) (ts : List Test) (n : ℕ) → (onward f (tested ts (accepted a)) ≡ refused (suc n)) ↔ (refusal ts ≡ suc n)
unfolding onward tested
tested_refused {A} {B} f a ts n = (go (refusal ts), λ e. ap (onward f) (tested_stops ts (accepted a) (sym e)))
  where
    go : (k : ℕ) → onward f (after k (accepted a)) ≡ refused (suc n) → k ≡ suc n
    go zero e = absurd (refused_accepted (sym e))
    go (suc k) e = refused_same e

module _ (ending : List ℕ) (most : ℕ) (c : Counts) (rest : List ℕ) {l : Lines} (on : body_of ending most c rest ≡ accepted l) where
  abbrev drawn : Drawing
  drawn = drawing most c l

  abbrev last : List Test
  last = ends ending l.rest or 9 ∷ []

  after_22 : refusal (after_tests ending drawn l.rest) ≡ 22 → refusal (drawing_tests drawn) ≡ 22
  unfolding after_tests
  after_22 e = go (refusal (drawing_tests drawn)) refl
    where
      numbered : Numbered (drawing_tests drawn)
      numbered = unfold drawing_tests in omega arith

      only_9 : Passed (drawing_tests drawn) → ⊥
      only_9 p = by_test (ends ending l.rest)
          (λ h. let z = append_past (drawing_tests drawn) last p (past (ends ending l.rest or 9) [] h none) ∙ e in omega (arith, z))
          (λ h. let z = append_past (drawing_tests drawn) last p (stops (ends ending l.rest or 9) [] h) ∙ e in omega (arith, z))

      go : (k : ℕ) → refusal (drawing_tests drawn) ≡ k → refusal (drawing_tests drawn) ≡ 22
      go zero z = absurd (only_9 (passes (drawing_tests drawn) numbered (sym z)))
      go (suc k) z = z ∙ refusal_append (drawing_tests drawn) last z ∙ e

  -- once its lines are read, a text is refused with 22 exactly if 20 and 21 are not given and some gate leads to itself
  pub refused_22 : (read_drawing ending most c rest ≡ refused 22) ↔ ((every (lines drawn) (once drawn) ≡ true) × (all_defined drawn ≡ true) × Looped drawn)
  unfolding after_tests
  refused_22 =
      let shown = drawing_lines ending most c rest on in
      let as_refusal = tested_refused (drawing most c) l (after_tests ending drawn l.rest) 21 in (
        λ e. (gives_22 drawn).0 (after_22 (as_refusal.0 (sym shown ∙ e))),
        λ p. shown ∙ as_refusal.1 (sym (refusal_append (drawing_tests drawn) last ((gives_22 drawn).1 p))),
      )

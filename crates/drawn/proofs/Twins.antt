-- A text that the plain reader accepts: its plain table and the table made here have the same next state, lamps, bad states and constraints, for all switches and states. Assumes nothing.
use mathlib.Core.Path.{◌≡◌, refl, sym, ap, ap₂, ◌∙◌}
use mathlib.Core.Bool.{Bool, false, ◌&&◌}
use mathlib.Core.List.{List, ◌∷◌, ◌++◌, map}
use Prim.Native.Nat.{ℕ, suc, ◌+◌, ◌*◌, ◌/◌, ◌<◌}
use native.Mathlib.Omega.{arith}
use lib.ListN.{length, get_or, length-append, get_or-append}
use Rattle.three.specs.Lists.{tabulate}
use Rattle.three.specs.Value.{boolean}
use Rattle.three.proofs.Lists.{length_tabulate, get_or_tabulate, map_tabulate, tabulate_ext}
use Rattle.circuit.specs.RulesInCode.{Legal}
use Rattle.circuit.specs.Circuit.{Circuit, Latch, Gate, value, pass, readings, settle, next}
use Rattle.circuit.specs.Table.{circuit_of, literals_at, bads_at, constraints_at, verdicts}
use Rattle.drawn.specs.Drawing.{Drawing, leaves, lines, own, next_literal, single, left, right, table}
use Rattle.drawn.specs.Meaning.{literal, Solves, next_under, shown_by, singles_under, shown_under}
use Rattle.drawn.proofs.Proper.{Proper}
use Rattle.circuit.proofs.Fixed.{Falling, falling, entry_front, pass_at}
use Rattle.drawn.proofs.Same.{next_same, shown_same, same_shown}
use Rattle.drawn.proofs.Picking.{get_or_behind}

module _ (d : Drawing) (p : Proper d) (due : (k : ℕ) → k < lines d → own d k ≡ 2 + 2 * k) (l : Legal d.counts d.words)
    (r s : List Bool) (inputs_long : length r ≡ d.counts.inputs) (latches_long : length s ≡ d.counts.latches) where
  abbrev plain : Circuit
  plain = circuit_of d.counts d.words

  abbrev front : List Bool
  front = false ∷ (r ++ s)

  abbrev gates : List Gate
  gates = tabulate d.counts.gates (λ i. record { left = left d i; right = right d i })

  abbrev values : List Bool
  values = pass boolean front gates

  -- the entries of the plain table
  entry : ℕ → Bool
  entry x = get_or values x false

  front_long : length front ≡ 1 + leaves d
  front_long = omega (arith, length-append r s, inputs_long, latches_long)

  gates_fall : Falling (1 + leaves d) gates
  gates_fall = falling (1 + leaves d) d.counts.gates _ (λ i h. (omega (arith, l.left i h), omega (arith, l.right i h)))

  own_half : (k : ℕ) → k < lines d → own d k / 2 ≡ suc k
  own_half k h = let e = due k h in omega (arith, e)

  literal_entry : (x : ℕ) → value boolean values x ≡ literal entry x
  unfolding value literal entry boolean
  literal_entry x = refl

  entries_solve : Solves d r s entry
  unfolding entry boolean
  entries_solve = record {
    constant = entry_front boolean front gates 0 false (omega (arith, front_long));
    inputs = λ i h. ap (λ (n : ℕ). get_or values n false) (own_half i (omega arith)) ∙ entry_front boolean front gates (suc i) false (omega (arith, front_long)) ∙ get_or-append r s false i (omega (arith, inputs_long));
    latches = λ i h. ap (λ (n : ℕ). get_or values n false) (own_half (d.counts.inputs + i) (omega arith)) ∙ entry_front boolean front gates (suc (d.counts.inputs + i)) false (omega (arith, front_long)) ∙ rw (← inputs_long) (get_or_behind r s i false);
    gates = λ i h.
        let g₀ : Gate = record { left = 0; right = 0 } in
        let place : length front + i ≡ suc (leaves d + i) = omega (arith, front_long) in
        let long : length gates ≡ d.counts.gates = length_tabulate d.counts.gates _ in
        ap (λ (n : ℕ). get_or values n false) (own_half (leaves d + i) (omega arith) ∙ sym place)
        ∙ pass_at boolean front gates i g₀ false (rw front_long gates_fall) (rw long h)
        ∙ ap (λ (g : Gate). value boolean values g.left && value boolean values g.right) (get_or_tabulate d.counts.gates _ i g₀ h)
        ∙ ap₂ (λ (a b : Bool). a && b) (literal_entry (left d i)) (literal_entry (right d i));
  }

  pub next_twins : next boolean (circuit_of d.counts (table d)) r s ≡ next boolean plain r s
  unfolding readings settle circuit_of next_under boolean
  next_twins =
      next_same d p r s inputs_long latches_long entry entries_solve
      ∙ tabulate_ext d.counts.latches _ _ (λ i h. sym (literal_entry (next_literal d i)))
      ∙ sym (ap (map (value boolean values)) (map_tabulate (λ (x : Latch). x.next) d.counts.latches _) ∙ map_tabulate (value boolean values) d.counts.latches _)

  singles_plain : (k n at : ℕ) → at ≡ literals_at d.counts + k → singles_under d entry k n ≡ readings boolean plain (tabulate n (λ i. get_or d.words (at + i) 0)) r s
  unfolding readings settle circuit_of singles_under boolean
  singles_plain k n at e =
      tabulate_ext n _ _ (λ i h. sym (literal_entry (single d (k + i))) ∙ ap (λ (x : ℕ). value boolean values (get_or d.words x 0)) (omega arith))
      ∙ sym (map_tabulate (value boolean values) n _)

  pub shown_twins : shown_by (circuit_of d.counts (table d)) r s ≡ shown_by plain r s
  unfolding circuit_of shown_by shown_under
  shown_twins = shown_same d p r s inputs_long latches_long entry entries_solve ∙ same_shown
      (singles_plain 0 d.counts.lamps (literals_at d.counts) (omega arith))
      (singles_plain d.counts.lamps d.counts.bads (bads_at d.counts) (omega arith))
      (singles_plain (verdicts d.counts) d.counts.constraints (constraints_at d.counts) (omega arith))

-- A drawing that 20, 21 and 22 do not refuse is followed, numbered and made into its table. Assumes nothing.
use mathlib.Core.Path.{◌≡◌, refl, ap, ◌∙◌}
use mathlib.Core.List.{List}
use Prim.Native.Nat.{ℕ, suc, ◌+◌, ◌<◌, ◌≤◌}
use native.Mathlib.Numerals.{add-one}
use native.Mathlib.Omega.{arith}
use borrow.Author.Tests.{ltb-true}
use lib.Dec.{ltb}
use lib.ListN.{length, get_or}
use Rattle.three.specs.Lists.{tabulate, over}
use Rattle.three.proofs.Lists.{by_test, tabulate_ext}
use Rattle.circuit.specs.declared.Counts.{Counts}
use Rattle.circuit.specs.Table.{variables}
use Rattle.circuit.proofs.Refusals.{Numbered, passes}
use Rattle.drawn.specs.Drawing.{Drawing, lines, place, name, drawing_tests, table, renumbered}
use Rattle.drawn.proofs.Proper.{Proper, proper}
use Rattle.drawn.proofs.Naming.{gate_small}
use Rattle.defined.specs.Places.{held, Spoken, DrawingJudged}
use Rattle.names.specs.Naming.{Followed, Of}
use Rattle.names.specs.Tabling.{table_by, Tabled}
use Rattle.names.proofs.Tabling.{table_same}

-- a name is one of the numbers given
name_few : (d : Drawing) (v : ℕ) → name d v ≤ lines d
unfolding name
name_few d v = by_test (ltb (place d v) (lines d)) (λ e. rw (name, e) (ltb-true (place d v) (lines d) e)) (λ e. rw (name, e) (omega arith))

module _ (most : ℕ) (c : Counts) (owns words order : List ℕ) (j : DrawingJudged (held most c owns words) 0 order) where
  abbrev d : Drawing
  d = held most c owns words

  numbered : Numbered (drawing_tests d)
  unfolding drawing_tests
  numbered = omega arith

  pub judged_proper : Proper d
  judged_proper = proper d (passes (drawing_tests d) numbered j.answers)

  gate_few : (q : ℕ) → q < c.gates → get_or order q 0 < c.gates
  gate_few q h = let small = gate_small d judged_proper q h in omega (arith, small, j.orders refl q h)

  pub of_drawing : Of d owns order (c.inputs + c.latches) c.gates
  of_drawing = record { owns_same = refl; leaves_same = refl; gates_same = refl; order_same = j.orders refl }

  module _ (s : Spoken c words) (long : variables c ≤ length owns) (few : most ≤ 4095) where
    pub followed : Followed owns order (c.inputs + c.latches) c.gates
    followed = record {
      few = omega (arith, s.bounded);
      long = long;
      gates_few = gate_few;
      small = λ k h. let small = judged_proper.owned.small k h in omega (arith, small);
    }

    module _ (names : List ℕ) (sized : length names ≡ 4096) (named : (v : ℕ) → get_or names v 0 ≡ name d v) where
      pub tabled : Tabled c words names order
      tabled = record {
        bounded = s.bounded;
        long = s.long;
        numbers = record { long = sized; small = λ v. let n = name_few d v in omega (arith, s.bounded, named v, n) };
        literals = s.literals;
        gates = gate_few;
      }

      pub table_left : (t : List ℕ) {t' : List ℕ} → t' ≡ over (table_by c words names order) t → t' ≡ over (table d) t
      table_left t e = e ∙ ap (λ ws. over ws t) (table_same d names order named (j.orders refl))

      pub list_left : (t : List ℕ) {t' : List ℕ} → t' ≡ over (tabulate (most + 1) (λ v. get_or names v 0)) t → t' ≡ over (renumbered d) t
      unfolding renumbered
      list_left t e = e ∙ ap (λ ws. over ws t) (rw add-one (tabulate_ext (suc most) _ (name d) (λ v h. named v)))

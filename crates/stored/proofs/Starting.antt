-- Cube 0: its fields are the resets that stand in the table's words. Assumes nothing.
use mathlib.Core.Path.{◌≡◌, refl, sym, ap, ◌∙◌}
use mathlib.Core.List.{List, map}
use Prim.Native.Nat.{ℕ, zero, suc, ◌+◌, ◌*◌, ◌<◌}
use lib.ListN.{length, get_or}
use Rattle.three.specs.Value.{unknown, code}
use Rattle.three.proofs.Lists.{length_tabulate, get_or_tabulate, map_tabulate}
use Rattle.circuit.specs.declared.Counts.{Counts}
use Rattle.circuit.specs.Table.{circuit_of}
use Rattle.cubes.specs.Run.{start_field, resets, start}
use Rattle.stored.specs.CubesInCode.{start_fields}

pub start_fields_lem : (c : Counts) (words : List ℕ) → start (circuit_of c words) ≡ start_fields words c.latches
unfolding start resets start_fields circuit_of
start_fields_lem c words = ap (map start_field) (map_tabulate _ c.latches _) ∙ map_tabulate start_field c.latches _

-- a reset of 0 is known 0, one of 1 known 1, and any other X

pub reset_low : {n : ℕ} → n ≡ 0 → 1 ≡ code (start_field n)
unfolding start_field code
reset_low e = rw e

pub reset_high : {n : ℕ} → n ≡ 1 → 2 ≡ code (start_field n)
unfolding start_field code
reset_high e = rw e

pub reset_free : (n : ℕ) → (n ≡ 0 → ⊥) → (n ≡ 1 → ⊥) → 0 ≡ code (start_field n)
unfolding start_field code
reset_free zero y z = absurd (y refl)
reset_free (suc zero) y z = absurd (z refl)
reset_free (suc (suc n)) y z = refl

module _ (words : List ℕ) (count : ℕ) where
  pub start_sized : length (start_fields words count) ≡ count
  unfolding start_fields
  start_sized = length_tabulate count _

  pub start_given : {i r : ℕ} → i < count → r ≡ code (start_field (get_or words (2 * i + 1) 0)) → r ≡ code (get_or (start_fields words count) i unknown)
  unfolding start_fields
  start_given {i} h e = e ∙ ap code (sym (get_or_tabulate count _ i unknown h))

-- The fields that are marked, one by one and as a record. Assumes nothing.
use mathlib.Core.Path.{◌≡◌, sym, ap, ◌∙◌}
use mathlib.Core.Bool.{Bool, true, false, not}
use mathlib.Core.List.{List}
use Prim.Native.Nat.{ℕ, ◌+◌, ◌<◌}
use lib.ListN.{length, get_or}
use Rattle.three.specs.Value.{unknown, code, decode}
use Rattle.three.specs.Cube.{blank}
use Rattle.three.specs.Record.{pair_at}
use Rattle.three.proofs.Lists.{length_tabulate, get_or_tabulate}
use Rattle.three.proofs.Bytes.{code_decode}
use Rattle.why.specs.MarksInCode.{marked, marked_fields}

module _ (marks : List Bool) (bytes : List ℕ) (v i : ℕ) where
  pub field_blank : get_or marks v false ≡ false → 0 ≡ code (blank (decode (pair_at bytes i)) (not (marked marks v)))
  unfolding marked code blank
  field_blank e = rw e

  pub field_kept : pair_at bytes i < 3 → get_or marks v false ≡ true → {r : ℕ} → r ≡ pair_at bytes i → r ≡ code (blank (decode (pair_at bytes i)) (not (marked marks v)))
  unfolding marked blank
  field_kept small e same = rw e (same ∙ sym (code_decode (pair_at bytes i) small))

module _ (marks : List Bool) (bytes : List ℕ) (first count : ℕ) where
  pub length_marked : length (marked_fields marks bytes first count) ≡ count
  unfolding marked_fields
  length_marked = length_tabulate count _

  pub field_given : {i r : ℕ} → i < count → r ≡ code (blank (decode (pair_at bytes i)) (not (marked marks (first + i)))) → r ≡ code (get_or (marked_fields marks bytes first count) i unknown)
  unfolding marked_fields
  field_given {i} h e = e ∙ ap code (sym (get_or_tabulate count _ i unknown h))

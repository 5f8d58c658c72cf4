-- `stored::cube_sound` meets its contract: the mark is looked at, and the record. Assumes nothing.
use Rattle.cubes.proofs.StoredCube.{some_bytes, cube_bytes_lem}
use Rattle.stored.proofs.Judged.{mark_missing, mark_there}
use Rattle.stored.proofs.Reaching.{part_tail}
use native.Mathlib.Nat.{add-zero}
use native.Mathlib.Numerals.{add-one}
use native.Mathlib.Omega.{arith}
use lib.ListN.{length-drop}
use lib.Seq.{get_or-drop}
use Rattle.stored.proofs.cube_sound.Goals as goal

pub bounds-cubes-at : goal.bounds-cubes-at
bounds-cubes-at c = omega (arith, some_bytes c.args.latches, c.requires.1)

pub returns-then-cubes-at-lt64 : goal.returns-then-cubes-at-lt64
returns-then-cubes-at-lt64 c = mark_missing _ _ (rw (get_or-drop, add-zero) c.if-cubes-at-lt64.true)

pub sound-requires : goal.sound-requires
sound-requires c =
    (omega (arith, c.requires.0), rw (part_tail, length-drop, add-one, ← cube_bytes_lem c.args.latches) (omega (arith, c.requires.1)))

pub returns : goal.returns
returns c =
    mark_there _ _ (rw (get_or-drop, add-zero) c.if-cubes-at-lt64.false) (rw (get_or-drop, add-zero) (c.type_inv.cubes _).fits) (rw (part_tail, add-one) at c.sound.ensures)

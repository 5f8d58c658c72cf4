-- The next state that was stored from a pass: a record of latches, in which the constraints are looked at where it lies inside no cube. Assumes nothing.
use mathlib.Core.Path.{◌≡◌, ap, ◌∙◌}
use mathlib.Core.Bool.{Bool}
use mathlib.Core.List.{List}
use Prim.Native.Nat.{ℕ, ◌≤◌}
use lib.ListN.{length}
use Rattle.three.specs.Lists.{over}
use Rattle.three.specs.Cube.{Cube}
use Rattle.three.specs.Record.{bytes_for, pack, unpack}
use Rattle.three.specs.RecordInCode.{IsRecord}
use Rattle.three.proofs.Pack.{unpack_over}
use Rattle.three.proofs.Soundness.{record_over}
use Rattle.circuit.specs.declared.Counts.{Counts}
use Rattle.circuit.specs.Circuit.{Circuit}
use Rattle.circuit.specs.Table.{circuit_of}
use Rattle.circuit.specs.RulesInCode.{Legal}
use Rattle.pass.specs.ValuesInCode.{values_of, literal_values}
use Rattle.cubes.specs.Run.{next_cube, blocked}
use Rattle.cubes.proofs.Buffered.{next_counted}
use Rattle.stored.specs.CubesInCode.{Settled}
use Rattle.stored.proofs.Reaching.{next_packed}

module _ (c : Counts) (words : List ℕ) (legal : Legal c words) (state : Cube) (sized : length state ≡ c.latches) (t : List ℕ) (settled : Settled c words state t)
    (d next : List ℕ) (stored : next ≡ over (pack (literal_values (values_of t) words 0 2 c.latches)) d) where
  abbrev circuit : Circuit
  circuit = circuit_of c words

  pub next_record : bytes_for c.latches ≤ length d → IsRecord c.latches next
  next_record room =
      rw (next_packed c words legal state sized t settled d next stored) (record_over c.latches (next_cube circuit state) d (next_counted c words state) room)

  pub next_blocked : {r : Bool} → r ≡ blocked circuit (unpack c.latches next) → r ≡ blocked circuit (next_cube circuit state)
  next_blocked e =
      e ∙ ap (λ (l : List ℕ). blocked circuit (unpack c.latches l)) (next_packed c words legal state sized t settled d next stored)
      ∙ ap (blocked circuit) (unpack_over c.latches (next_cube circuit state) d (next_counted c words state))

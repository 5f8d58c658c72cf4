-- The public tick over records without X (specification, 3.8): "with none in them the results are the Boolean ones". Assumes nothing.
use mathlib.Core.Path.{◌≡◌, sym, ap, ap₂, ◌∙◌}
use mathlib.Core.Bool.{Bool}
use mathlib.Core.List.{List, map}
use Prim.Native.Nat.{ℕ}
use lib.ListN.{length}
use Rattle.three.specs.Value.{known, boolean, ternary}
use Rattle.three.specs.Record.{unpack}
use Rattle.three.proofs.Lists.{length_tabulate}
use Rattle.three.proofs.Pack.{unpack_over}
use Rattle.circuit.specs.declared.Counts.{Counts}
use Rattle.circuit.specs.Circuit.{Circuit, next, lamps}
use Rattle.circuit.specs.Table.{circuit_of}
use Rattle.tick.specs.Tick.{next_fields, lamp_fields, TickGiven, Ticked}
use Rattle.circuit.proofs.Refusals.{accepted_new}
use Rattle.circuit.proofs.Sound.{readings_boolean}
use Rattle.circuit.proofs.Pass.{next_sized, readings_sized}

-- ---- a field for each latch and for each lamp

module _ (c : Counts) (table state switches : List ℕ) where
  next_long : length (next_fields c table state switches) ≡ c.latches
  unfolding next_fields circuit_of
  next_long = next_sized ternary _ _ _ ∙ length_tabulate c.latches _

  lamps_long : length (lamp_fields c table state switches) ≡ c.lamps
  unfolding lamp_fields circuit_of
  lamps_long = readings_sized ternary _ _ _ _ ∙ length_tabulate c.lamps _

-- ---- the results of an accepted tick

module _ (g : TickGiven) {number : ℕ} {next' lamps' : List ℕ} (ticked : Ticked g number next' lamps') (done : number ≡ 0)
    (state switches : List Bool) (state_known : unpack g.counts.latches g.state ≡ map known state) (switches_known : unpack g.counts.inputs g.switches ≡ map known switches) where
  abbrev circuit : Circuit
  circuit = circuit_of g.counts g.table

  pub next_is_boolean : unpack g.counts.latches next' ≡ map known (next boolean circuit switches state)
  unfolding next_fields
  next_is_boolean =
      ap (unpack g.counts.latches) (ticked.fills_next ∙ sym (accepted_new number _ _ done))
      ∙ unpack_over g.counts.latches (next_fields g.counts g.table g.state g.switches) g.next (next_long g.counts g.table g.state g.switches)
      ∙ ap₂ (next ternary circuit) switches_known state_known
      ∙ readings_boolean circuit _ switches state

  pub lamps_are_boolean : unpack g.counts.lamps lamps' ≡ map known (lamps boolean circuit switches state)
  unfolding lamp_fields
  lamps_are_boolean =
      ap (unpack g.counts.lamps) (ticked.fills_lamps ∙ sym (accepted_new number _ _ done))
      ∙ unpack_over g.counts.lamps (lamp_fields g.counts g.table g.state g.switches) g.lamps (lamps_long g.counts g.table g.state g.switches)
      ∙ ap₂ (lamps ternary circuit) switches_known state_known
      ∙ readings_boolean circuit _ switches state

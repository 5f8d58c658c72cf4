-- `binary_writer::row_of` meets its contract: kind by kind. Assumes nothing.
use native.Mathlib.Omega.{arith}
use Rattle.text.proofs.Coding.{width_latch, width_lamp, width_gate}
use Rattle.binary_writer.proofs.RowLines.{row_input, row_latch, row_lamp, row_gate}
use Rattle.binary_writer.proofs.row_of.Goals as goal

pub returns-in-Input : goal.returns-in-Input
returns-in-Input c = row_input _ _ _ c.in-Input.is

pub bounds-table-at : goal.bounds-table-at
bounds-table-at c = omega (arith, c.requires.there, width_latch c.args.own c.in-Latch.is)

pub bounds-table-at-in-Latch : goal.bounds-table-at-in-Latch
bounds-table-at-in-Latch c = omega (arith, c.requires.there, width_latch c.args.own c.in-Latch.is)

pub latch_row-requires : goal.latch_row-requires
latch_row-requires c =
    (c.requires.literal, c.requires.small _ (omega (arith, width_latch c.args.own c.in-Latch.is)))

pub returns-in-Latch : goal.returns-in-Latch
returns-in-Latch c = row_latch _ _ _ c.in-Latch.is c.latch_row.ensures

pub bounds-table-at-in-Lamp : goal.bounds-table-at-in-Lamp
bounds-table-at-in-Lamp c = omega (arith, c.requires.there, width_lamp c.args.own c.in-Lamp.is)

pub returns-in-Lamp : goal.returns-in-Lamp
returns-in-Lamp c =
    row_lamp _ _ _ c.in-Lamp.is (c.requires.small _ (omega (arith, width_lamp c.args.own c.in-Lamp.is)))

pub bounds-table-at-in-Gate : goal.bounds-table-at-in-Gate
bounds-table-at-in-Gate c = omega (arith, c.requires.there, width_gate c.args.own c.in-Gate.is)

pub bounds-table-at-in-Gate-2 : goal.bounds-table-at-in-Gate-2
bounds-table-at-in-Gate-2 c = omega (arith, c.requires.there, width_gate c.args.own c.in-Gate.is)

pub gate_differences-requires : goal.gate_differences-requires
gate_differences-requires c = c.requires.below c.in-Gate.is

pub returns-in-Gate : goal.returns-in-Gate
returns-in-Gate c = row_gate _ _ _ c.in-Gate.is c.requires.literal (c.requires.below c.in-Gate.is) c.gate_differences.ensures

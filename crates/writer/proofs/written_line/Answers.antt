-- `writer::written_line` meets its contract: kind by kind. Assumes nothing.
use Rattle.text.proofs.Coding.{width_latch, width_lamp, width_gate}
use Rattle.writer.proofs.WrittenLine.{shows_input, shows_lamp, shows_latch, shows_gate}
use native.Mathlib.Omega.{arith}
use Rattle.writer.proofs.written_line.Goals as goal

pub returns-in-Input : goal.returns-in-Input
returns-in-Input c = shows_input _ _ _ c.in-Input.is c.requires.literal

pub bounds-table-at : goal.bounds-table-at
bounds-table-at c = omega (arith, c.requires.there, width_latch c.args.own c.in-Latch.is)

pub bounds-table-at-in-Latch : goal.bounds-table-at-in-Latch
bounds-table-at-in-Latch c = omega (arith, c.requires.there, width_latch c.args.own c.in-Latch.is)

pub latch_line-requires : goal.latch_line-requires
latch_line-requires c =
    let wide = width_latch c.args.own c.in-Latch.is in
    (c.requires.literal, c.requires.small _ (omega (arith, wide)), c.requires.small _ (omega (arith, wide)))

pub returns-in-Latch : goal.returns-in-Latch
returns-in-Latch c = shows_latch _ _ _ c.in-Latch.is c.latch_line.ensures

pub bounds-table-at-in-Lamp : goal.bounds-table-at-in-Lamp
bounds-table-at-in-Lamp c = omega (arith, c.requires.there, width_lamp c.args.own c.in-Lamp.is)

pub returns-in-Lamp : goal.returns-in-Lamp
returns-in-Lamp c =
    shows_lamp _ _ _ c.in-Lamp.is (c.requires.small _ (omega (arith, width_lamp c.args.own c.in-Lamp.is)))

pub bounds-table-at-in-Gate : goal.bounds-table-at-in-Gate
bounds-table-at-in-Gate c = omega (arith, c.requires.there, width_gate c.args.own c.in-Gate.is)

pub bounds-table-at-in-Gate-2 : goal.bounds-table-at-in-Gate-2
bounds-table-at-in-Gate-2 c = omega (arith, c.requires.there, width_gate c.args.own c.in-Gate.is)

pub returns-in-Gate : goal.returns-in-Gate
returns-in-Gate c =
    let wide = width_gate c.args.own c.in-Gate.is in
    shows_gate _ _ _ c.in-Gate.is c.requires.literal (c.requires.small _ (omega (arith, wide))) (c.requires.small _ (omega (arith, wide)))

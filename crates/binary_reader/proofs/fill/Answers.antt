-- `binary_reader::fill` meets its contract: the rows of each kind in turn, and when none is left the table is the whole. Assumes nothing.
use native.Mathlib.Omega.{arith}
use Rattle.text.specs.KindsInCode.{coded}
use Rattle.reader.proofs.FillingKinds.{latches_due, lamps_due, gates_due, filled_whole}
use Rattle.binary_reader.proofs.Filling.{inputs_filled, no_words}
use Rattle.binary_reader.proofs.fill.Goals as goal

pub fill_lines-lamps-requires : goal.fill_lines-lamps-requires
fill_lines-lamps-requires c =
    let pre = c.requires in
    (tt, omega arith, rw c.first_latch.ensures (latches_due pre.0 pre.1 inputs_filled))

pub fill_lines-gates-requires : goal.fill_lines-gates-requires
fill_lines-gates-requires c =
    let pre = c.requires in
    (tt, omega arith, rw c.literals.ensures (lamps_due pre.0 pre.1 inputs_filled (rw c.first_latch.ensures at c.fill_lines-lamps.ensures)))

pub fill_gates-requires : goal.fill_gates-requires
unfolding coded
fill_gates-requires c =
    let pre = c.requires in
    (omega arith, rw c.first_gate.ensures (gates_due pre.0 pre.1 inputs_filled (rw c.first_latch.ensures at c.fill_lines-lamps.ensures) (rw c.literals.ensures at c.fill_lines-gates.ensures)))

pub returns : goal.returns
unfolding coded
returns c =
    let pre = c.requires in
    filled_whole pre.0 pre.1 inputs_filled (rw c.first_latch.ensures at c.fill_lines-lamps.ensures) (rw c.literals.ensures at c.fill_lines-gates.ensures) no_words (rw c.first_gate.ensures at c.fill_gates.ensures)

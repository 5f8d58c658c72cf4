-- `reader::fill` meets its contract: the lines of each kind in turn, and when none is left the table is the whole. Assumes nothing.
use native.Mathlib.Omega.{arith}
use Rattle.reader.proofs.FillingKinds.{no_words, inputs_due, latches_due, lamps_due, gates_due, filled_whole}
use Rattle.reader.proofs.fill.Goals as goal

pub fill_lines-latches-requires : goal.fill_lines-latches-requires
fill_lines-latches-requires c = (tt, omega arith, inputs_due c.requires.0 c.requires.1)

pub fill_lines-lamps-requires : goal.fill_lines-lamps-requires
fill_lines-lamps-requires c = (tt, omega arith, rw c.first_latch.ensures (latches_due c.requires.0 c.requires.1 c.fill_lines-latches.ensures))

pub fill_lines-gates-requires : goal.fill_lines-gates-requires
fill_lines-gates-requires c =
    let lamps = rw c.first_latch.ensures at c.fill_lines-lamps.ensures in
    (tt, omega arith, rw c.literals.ensures (lamps_due c.requires.0 c.requires.1 c.fill_lines-latches.ensures lamps))

pub fill_lines-requires : goal.fill_lines-requires
fill_lines-requires c =
    let lamps = rw c.first_latch.ensures at c.fill_lines-lamps.ensures in
    (tt, omega arith, rw c.first_gate.ensures (gates_due c.requires.0 c.requires.1 c.fill_lines-latches.ensures lamps (rw c.literals.ensures at c.fill_lines-gates.ensures)))

pub returns : goal.returns
returns c =
    let lamps = rw c.first_latch.ensures at c.fill_lines-lamps.ensures in
    filled_whole c.requires.0 c.requires.1 c.fill_lines-latches.ensures lamps (rw c.literals.ensures at c.fill_lines-gates.ensures) (no_words _) (rw c.first_gate.ensures at c.fill_lines.ensures)

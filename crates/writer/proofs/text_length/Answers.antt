-- `writer::text_length` meets its contract: the first line, and then the rows of each kind. Assumes nothing.
use Rattle.text.specs.declared.LineKind.TheVariants.{Input, Latch, Lamp, Gate}
use Rattle.writer.proofs.WrittenText.{body_length, lines_there}
use mathlib.Core.List.{[]}
use native.Mathlib.Omega.{arith}
use Rattle.writer.proofs.text_length.Goals as goal

pub count_rows-latches-requires : goal.count_rows-latches-requires
count_rows-latches-requires g c = rw c.rows_of.ensures (lines_there _ _ c.requires.0 Input, omega (arith, body_length [] g.F.Form.each c.args.counts c.args.table.now))

pub count_rows-lamps-requires : goal.count_rows-lamps-requires
count_rows-lamps-requires g c = rw c.rows_of-2.ensures (lines_there _ _ c.requires.0 Latch, omega (arith, body_length [] g.F.Form.each c.args.counts c.args.table.now, rw c.rows_of.ensures at c.count_rows-latches.ensures))

pub count_rows-gates-requires : goal.count_rows-gates-requires
count_rows-gates-requires g c = rw c.rows_of-3.ensures (lines_there _ _ c.requires.0 Lamp, omega (arith, body_length [] g.F.Form.each c.args.counts c.args.table.now, rw c.rows_of.ensures at c.count_rows-latches.ensures, rw c.rows_of-2.ensures at c.count_rows-lamps.ensures))

pub count_rows-requires : goal.count_rows-requires
count_rows-requires g c = rw c.rows_of-4.ensures (lines_there _ _ c.requires.0 Gate, omega (arith, body_length [] g.F.Form.each c.args.counts c.args.table.now, rw c.rows_of.ensures at c.count_rows-latches.ensures, rw c.rows_of-2.ensures at c.count_rows-lamps.ensures, rw c.rows_of-3.ensures at c.count_rows-gates.ensures))

pub returns : goal.returns
returns g c =
    omega (arith, body_length [] g.F.Form.each c.args.counts c.args.table.now, rw c.rows_of.ensures at c.count_rows-latches.ensures, rw c.rows_of-2.ensures at c.count_rows-lamps.ensures, rw c.rows_of-3.ensures at c.count_rows-gates.ensures, rw c.rows_of-4.ensures at c.count_rows.ensures)

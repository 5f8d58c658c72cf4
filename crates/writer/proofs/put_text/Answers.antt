-- `writer::put_text` meets its contract: the first line, and then the rows of each kind. Assumes nothing.
use Rattle.text.specs.declared.LineKind.TheVariants.{Input, Latch, Lamp, Gate}
use Rattle.writer.proofs.WrittenText.{put_blocks, text_length, opened_length, lines_there}
use native.Mathlib.Omega.{arith}
use Rattle.writer.proofs.put_text.Goals as goal

pub put_first_line-inputs-requires : goal.put_first_line-inputs-requires
put_first_line-inputs-requires g c =
    (c.requires.0.bounded, omega (arith, opened_length c.args.magic.now g.F.Form.each c.args.counts c.args.table.now (omega arith), c.requires.1))

pub put_rows-latches-requires : goal.put_rows-latches-requires
put_rows-latches-requires g c =
    rw c.rows_of.ensures (lines_there _ _ c.requires.0 Input, omega (arith, text_length c.args.magic.now g.F.Form.each c.args.counts c.args.table.now, c.put_first_line-inputs.ensures, c.requires.1))

pub put_rows-lamps-requires : goal.put_rows-lamps-requires
put_rows-lamps-requires g c =
    rw c.rows_of-2.ensures (lines_there _ _ c.requires.0 Latch, omega (arith, text_length c.args.magic.now g.F.Form.each c.args.counts c.args.table.now, c.put_first_line-inputs.ensures, rw c.rows_of.ensures at c.put_rows-latches.ensures, c.requires.1))

pub put_rows-gates-requires : goal.put_rows-gates-requires
put_rows-gates-requires g c =
    rw c.rows_of-3.ensures (lines_there _ _ c.requires.0 Lamp, omega (arith, text_length c.args.magic.now g.F.Form.each c.args.counts c.args.table.now, c.put_first_line-inputs.ensures, rw c.rows_of.ensures at c.put_rows-latches.ensures, rw c.rows_of-2.ensures at c.put_rows-lamps.ensures, c.requires.1))

pub put_rows-requires : goal.put_rows-requires
put_rows-requires g c =
    rw c.rows_of-4.ensures (lines_there _ _ c.requires.0 Gate, omega (arith, text_length c.args.magic.now g.F.Form.each c.args.counts c.args.table.now, c.put_first_line-inputs.ensures, rw c.rows_of.ensures at c.put_rows-latches.ensures, rw c.rows_of-2.ensures at c.put_rows-lamps.ensures, rw c.rows_of-3.ensures at c.put_rows-gates.ensures, c.requires.1))

pub returns : goal.returns
returns g c =
    put_blocks _ _ _ _ c.put_first_line-inputs.ensures (rw c.rows_of.ensures at c.put_rows-latches.ensures) (rw c.rows_of-2.ensures at c.put_rows-lamps.ensures) (rw c.rows_of-3.ensures at c.put_rows-gates.ensures) (rw c.rows_of-4.ensures at c.put_rows.ensures)

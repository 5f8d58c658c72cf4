-- `writer::put_rows` meets its contract: row by row, what is left makes it the whole. Assumes nothing.
use Rattle.writer.proofs.WrittenRows.{PutLeft}
use Rattle.writer.proofs.put_rows.Given as goal

abbrev pub invariant-loop-i : goal.invariant-loop-i
invariant-loop-i g l = PutLeft l.rows.kind l.rows.own l.rows.count l.table l.rows.at l.wide g.F.Form.each l.start l.initial.text l.text l.end l.i

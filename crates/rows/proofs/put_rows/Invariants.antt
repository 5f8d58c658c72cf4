-- `rows::put_rows` meets its contract: row by row, what is left makes it the whole. Assumes nothing.
use Rattle.rows.proofs.Rows.{RowsLeft}
use Rattle.rows.proofs.put_rows.Given as goal

abbrev pub invariant-loop-i : goal.invariant-loop-i
invariant-loop-i l = RowsLeft l.row l.fields l.first l.count l.initial.out l.start l.out l.end l.i

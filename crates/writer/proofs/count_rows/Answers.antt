use Rattle.writer.proofs.WrittenRows.{row_there, row_room, rows_next, rows_last}
use native.Mathlib.Omega.{arith}
use Rattle.writer.proofs.count_rows.Goals as goal

pub row_length-end-requires : goal.row_length-end-requires
row_length-end-requires g c = row_there _ _ _ _ _ _ c.words-wide.ensures c.requires.0 _ c.loop-i-test.true

pub overflow_add-end : goal.overflow_add-end
overflow_add-end g c = omega (arith, row_room _ _ _ _ _ _ _ _ c.loop-i.invariant c.words-wide.ensures c.loop-i-test.true)

pub loop-i-preserved : goal.loop-i-preserved
loop-i-preserved g c = rows_next _ _ _ _ _ _ _ _ c.loop-i.invariant c.words-wide.ensures c.loop-i-test.true (omega arith)

pub returns : goal.returns
returns g c = rows_last _ _ _ _ _ _ _ _ c.loop-i.invariant c.loop-i-test.false

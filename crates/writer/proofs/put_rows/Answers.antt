use Rattle.writer.proofs.WrittenRows.{row_there, row_room, left_next, left_last}
use native.Mathlib.Omega.{arith}
use Rattle.writer.proofs.put_rows.Goals as goal

pub put_row-end-requires : goal.put_row-end-requires
put_row-end-requires g c =
    (row_there _ _ _ _ _ _ c.words-wide.ensures c.requires.0 _ c.loop-i-test.true, omega (arith, row_room _ _ _ _ _ _ _ _ c.loop-i.invariant.rows c.words-wide.ensures c.loop-i-test.true))

pub loop-i-preserved : goal.loop-i-preserved
loop-i-preserved g c = left_next _ _ _ _ _ _ _ _ c.loop-i.invariant c.words-wide.ensures c.loop-i-test.true c.put_row-end.ensures

pub returns : goal.returns
returns g c = left_last _ _ _ _ _ _ _ _ c.loop-i.invariant c.loop-i-test.false

use Rattle.rows.proofs.Rows.{rows_first, rows_next, rows_last}
use Rattle.rows.proofs.put_rows.Goals as goal

pub loop-i-init : goal.loop-i-init
loop-i-init c = rows_first _ _ _ _ _ _

pub loop-i-preserved : goal.loop-i-preserved
loop-i-preserved c =
    rows_next _ _ _ _ _ _ c.loop-i.invariant c.loop-i-test.true c.field.ensures c.put_row-end.ensures

pub shape_of-out : goal.shape_of-out
shape_of-out c = c.loop-i.invariant.long

pub returns : goal.returns
returns c = rows_last _ _ _ _ _ _ c.loop-i.invariant c.loop-i-test.false

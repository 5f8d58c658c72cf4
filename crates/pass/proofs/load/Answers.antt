use Rattle.three.proofs.Loops.{stored_first, stored_last}
use Rattle.pass.proofs.WorkingTable.{field_small, load_next}
use native.Mathlib.Omega.{arith}
use Rattle.pass.proofs.load.Goals as goal

pub loop-i-init : goal.loop-i-init
loop-i-init c = stored_first _ _ _ _

pub put-requires : goal.put-requires
put-requires c = (omega arith, field_small _ _ _ c.requires.0 c.loop-i-test.true c.field-v.ensures)

pub loop-i-preserved : goal.loop-i-preserved
loop-i-preserved c =
    rw c.put.ensures.same (load_next _ _ _ _ c.requires.1 c.args.values.now.working _ _ _ c.loop-i.invariant c.loop-i-test.true c.field-v.ensures)

pub returns : goal.returns
returns c = record { working = c.loop-i.values.working; same = stored_last _ _ _ _ _ _ c.loop-i.invariant c.loop-i-test.false }

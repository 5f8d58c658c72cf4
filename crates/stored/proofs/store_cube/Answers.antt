use Rattle.three.proofs.Loops.{range_length}
use Rattle.stored.proofs.Raising.{raised_next, raised_last}
use Rattle.stored.proofs.store_cube.Goals as goal

pub loop-i-preserved : goal.loop-i-preserved
loop-i-preserved c =
    raised_next _ _ _ _ (range_length _ _ _ c.requires.1) c.loop-i.invariant c.loop-i-test.true c.raised.ensures

pub returns : goal.returns
returns c = raised_last _ _ _ _ (range_length _ _ _ c.requires.1) c.loop-i.invariant _ _ c.loop-i-test.false

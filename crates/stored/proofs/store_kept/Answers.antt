use Rattle.three.proofs.Loops.{front_length}
use Rattle.stored.proofs.Keeping.{kept_next, kept_last}
use Rattle.stored.proofs.store_kept.Goals as goal

pub loop-i-preserved : goal.loop-i-preserved
loop-i-preserved c =
    kept_next _ _ _ (front_length _ _ c.requires.2) c.loop-i.invariant c.loop-i-test.true c.kept.ensures

pub returns : goal.returns
returns c = kept_last _ _ _ (front_length _ _ c.requires.2) c.loop-i.invariant _ c.loop-i-test.false

use Rattle.chain.proofs.Keeping.{widen_next, widen_last}
use native.Mathlib.Omega.{arith}
use Rattle.chain.proofs.widen.Goals as goal

pub loop-i-preserved : goal.loop-i-preserved
loop-i-preserved c =
    widen_next _ _ _ _ (omega (arith, c.requires.0, c.requires.1)) c.loop-i.invariant c.loop-i-test.true c.differing.ensures

pub returns : goal.returns
returns c = widen_last _ _ _ _ (omega (arith, c.requires.0, c.requires.1)) c.loop-i.invariant c.loop-i-test.false

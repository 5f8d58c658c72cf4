use Rattle.stored.proofs.Searching.{inner_next, clash, found, missing}
use Rattle.stored.proofs.search.Goals as goal

pub stored-preserved : goal.stored-preserved
stored-preserved c =
    clash _ _ _ _ c.requires.0 _ _ _ c.loop-i.invariant.0 c.loop-i-test.true c.if-c-d.true

pub loop-i-preserved : goal.loop-i-preserved
loop-i-preserved c =
    (inner_next _ _ _ _ c.requires.0 _ _ _ c.loop-i.invariant.0 c.loop-i-test.true c.if-c-d.false, c.loop-i.invariant.1)

pub returns-then-k-n : goal.returns-then-k-n
returns-then-k-n c = missing _ _ _ _ c.requires.0 _ _ c.stored.invariant c.if-k-n.true

pub returns-after-loop-i : goal.returns-after-loop-i
returns-after-loop-i c = found _ _ _ _ c.requires.0 _ _ _ c.loop-i.invariant.0 c.loop-i-test.false

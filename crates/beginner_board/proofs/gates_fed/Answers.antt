use Rattle.three.proofs.Loops.{tried_next, tried_fails, tried_all}
use Rattle.beginner_board.proofs.gates_fed.Goals as goal

pub returns-then-not-well_fed : goal.returns-then-not-well_fed
returns-then-not-well_fed c = tried_fails _ _ c.loop-i-test.true c.well_fed.ensures c.if-not-well_fed.true

pub loop-i-preserved : goal.loop-i-preserved
loop-i-preserved c = tried_next _ _ c.loop-i.invariant c.loop-i-test.true c.well_fed.ensures c.if-not-well_fed.false

pub returns : goal.returns
returns c = tried_all _ _ c.loop-i.invariant c.loop-i-test.false

use Rattle.three.proofs.Loops.{tried_first, tried_next, tried_fails, tried_all}
use Rattle.table.proofs.gates_kept.Goals as goal

pub loop-i-init : goal.loop-i-init
loop-i-init c = tried_first _ _

pub returns-then-not-gate_kept : goal.returns-then-not-gate_kept
returns-then-not-gate_kept c = tried_fails _ _ c.loop-i-test.true c.gate_kept.ensures c.if-not-gate_kept.true

pub loop-i-preserved : goal.loop-i-preserved
loop-i-preserved c = tried_next _ _ c.loop-i.invariant c.loop-i-test.true c.gate_kept.ensures c.if-not-gate_kept.false

pub returns : goal.returns
returns c = tried_all _ _ c.loop-i.invariant c.loop-i-test.false

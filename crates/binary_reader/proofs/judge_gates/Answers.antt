use native.Mathlib.Omega.{arith}
use Rattle.reader.proofs.Bodies.{returned, turns_first, turns_next, turns_stop, turns_last}
use Rattle.binary_reader.proofs.Judging.{gate_stopped, gate_passed}
use Rattle.binary_reader.proofs.judge_gates.Goals as goal

pub loop-i-init : goal.loop-i-init
loop-i-init c = λ most. turns_first _ _ _ _ _ _ (omega arith)

pub returns-in_err-next : goal.returns-in_err-next
returns-in_err-next c =
    λ most. rw (returned _ _ c.from_residual.ensures.1) (turns_stop _ _ _ _ _ _ (c.loop-i.invariant most) c.loop-i-test.true (gate_stopped _ _ _ most c.in_err-next.ensures))

pub loop-i-preserved : goal.loop-i-preserved
loop-i-preserved c = λ most. turns_next _ _ _ _ _ _ (c.loop-i.invariant most) c.loop-i-test.true (gate_passed _ _ _ most c.in_ok-next.ensures)

pub returns : goal.returns
returns c = λ most. turns_last _ _ _ _ _ _ (c.loop-i.invariant most) c.loop-i-test.false

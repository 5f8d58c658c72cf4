use Rattle.reader.proofs.Bodies.{returned, line_stopped, line_passed, turns_next, turns_stop, turns_last}
use Rattle.reader.proofs.judge_lines.Goals as goal

pub returns-in_err-line_refusal : goal.returns-in_err-line_refusal
returns-in_err-line_refusal g c =
    rw (returned _ _ c.from_residual.ensures.1) (turns_stop _ _ _ _ _ _ c.loop-i.invariant c.loop-i-test.true (line_stopped _ c.line-found.ensures c.in_err-line_refusal.ensures))

pub loop-i-preserved : goal.loop-i-preserved
loop-i-preserved g c = turns_next _ _ _ _ _ _ c.loop-i.invariant c.loop-i-test.true (line_passed _ c.line-found.ensures c.in_ok-line_refusal.ensures)

pub returns : goal.returns
returns g c = turns_last _ _ _ _ _ _ c.loop-i.invariant c.loop-i-test.false

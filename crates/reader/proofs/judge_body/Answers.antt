-- `reader::judge_body` meets its contract: the lines of each kind in turn; the first refusal decides. Assumes nothing.
use Rattle.text.specs.KindsInCode.{coded}
use Rattle.reader.proofs.Bodies.{returned, judged_stop, judged_then}
use Rattle.reader.proofs.judge_body.Goals as goal

pub returns-in_err-latches : goal.returns-in_err-latches
unfolding coded
returns-in_err-latches c = rw (returned _ _ c.from_residual.ensures.1) (judged_stop _ (rw c.top-most.ensures at c.in_err-latches.ensures))

pub returns-in_err-lamps : goal.returns-in_err-lamps
unfolding coded
returns-in_err-lamps c =
    rw (returned _ _ c.from_residual-in_err-lamps.ensures.1) (judged_then _ (rw c.top-most.ensures at c.in_ok-latches.ensures) (judged_stop _ (rw (c.top-most.ensures, c.first_latch.ensures) at c.in_err-lamps.ensures)))

pub returns-in_err-gates : goal.returns-in_err-gates
unfolding coded
returns-in_err-gates c =
    let stop = judged_stop _ (rw (c.top-most.ensures, c.literals.ensures) at c.in_err-gates.ensures) in
    rw (returned _ _ c.from_residual-in_err-gates.ensures.1) (judged_then _ (rw c.top-most.ensures at c.in_ok-latches.ensures) (judged_then _ (rw (c.top-most.ensures, c.first_latch.ensures) at c.in_ok-lamps.ensures) stop))

pub returns : goal.returns
unfolding coded
returns c =
    let gates = judged_then _ (rw (c.top-most.ensures, c.literals.ensures) at c.in_ok-gates.ensures) (rw (c.top-most.ensures, c.first_gate.ensures) at c.judge_lines-4.ensures) in
    judged_then _ (rw c.top-most.ensures at c.in_ok-latches.ensures) (judged_then _ (rw (c.top-most.ensures, c.first_latch.ensures) at c.in_ok-lamps.ensures) gates)

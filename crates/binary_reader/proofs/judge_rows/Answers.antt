-- `binary_reader::judge_rows` meets its contract: no row for an input, then the rows of each kind in turn; the first refusal decides. Assumes nothing.
use Rattle.circuit.specs.Table.{top}
use Rattle.text.specs.KindsInCode.{coded}
use Rattle.reader.proofs.Bodies.{returned, judged_stop, judged_then}
use Rattle.binary_reader.proofs.Judging.{inputs_judged}
use Rattle.binary_reader.proofs.judge_rows.Goals as goal

pub returns-in_err-lamps : goal.returns-in_err-lamps
unfolding coded
returns-in_err-lamps c =
    rw (returned _ _ c.from_residual.ensures.1) (judged_then _ (inputs_judged _ _ _ _ _ c.requires.1) (judged_stop _ (rw (c.top-most.ensures, c.first_latch.ensures) at c.in_err-lamps.ensures)))

pub returns-in_err-gates : goal.returns-in_err-gates
unfolding coded
returns-in_err-gates c =
    let stop = judged_stop _ (rw (c.top-most.ensures, c.literals.ensures) at c.in_err-gates.ensures) in
    rw (returned _ _ c.from_residual-in_err-gates.ensures.1) (judged_then _ (inputs_judged _ _ _ _ _ c.requires.1) (judged_then _ (rw (c.top-most.ensures, c.first_latch.ensures) at c.in_ok-lamps.ensures) stop))

pub returns : goal.returns
unfolding coded
returns c =
    let gates = judged_then _ (rw (c.top-most.ensures, c.literals.ensures) at c.in_ok-gates.ensures) (rw c.first_gate.ensures at (c.judge_gates.ensures (top c.args.counts))) in
    judged_then _ (inputs_judged _ _ _ _ _ c.requires.1) (judged_then _ (rw (c.top-most.ensures, c.first_latch.ensures) at c.in_ok-lamps.ensures) gates)

-- `reader::judge` meets its contract: the length, the first line, the body, and then the end. Assumes nothing.
use Rattle.reader.proofs.Answering.{judged_long, judged_header, judged_bounded, judged_stops, judged_open, judged_body, no_lines}
use Rattle.reader.proofs.Bodies.{returned}
use Rattle.text.specs.Text.{circuit_lines}
use native.Mathlib.Omega.{arith}
use Rattle.reader.proofs.judge.Goals as goal

pub returns-then-text-gt-MOST_TEXT : goal.returns-then-text-gt-MOST_TEXT
returns-then-text-gt-MOST_TEXT c = judged_long _ _ _ _ c.if-text-gt-MOST_TEXT.true

pub returns-in_err-header_refusal : goal.returns-in_err-header_refusal
returns-in_err-header_refusal c = rw (returned _ _ c.from_residual.ensures.1) (judged_header _ _ _ _ c.if-text-gt-MOST_TEXT.false c.requires _ c.in_err-header_refusal.ensures)

pub judge_body-requires : goal.judge_body-requires
judge_body-requires c = (judged_bounded _ _ _ c.requires c.in_ok-header_refusal.ensures c.counts_of-counts.ensures, omega arith)

pub returns-in_err-end : goal.returns-in_err-end
returns-in_err-end c =
    rw (returned _ _ c.from_residual-in_err-end.ensures.1) (judged_stops _ _ (circuit_lines _) _ c.if-text-gt-MOST_TEXT.false c.requires c.in_ok-header_refusal.ensures c.counts_of-counts.ensures (no_lines _) c.in_err-end.ensures)

pub returns-then-not-ended : goal.returns-then-not-ended
returns-then-not-ended c =
    judged_open _ _ (circuit_lines _) _ c.if-text-gt-MOST_TEXT.false c.requires c.in_ok-header_refusal.ensures c.counts_of-counts.ensures (no_lines _) c.in_ok-end.ensures c.ended.ensures c.if-not-ended.true

pub returns : goal.returns
returns c =
    judged_body _ _ (circuit_lines _) _ c.if-text-gt-MOST_TEXT.false c.requires c.in_ok-header_refusal.ensures c.counts_of-counts.ensures (no_lines _) c.in_ok-end.ensures c.ended.ensures c.if-not-ended.false

-- `anyorder::read_listed` meets its contract: 20, 21, 22, then 9, then 10 twice; and then table and list. Assumes nothing.
use native.Mathlib.Omega.{arith}
use Rattle.circuit.proofs.Answering.{numbered}
use Rattle.anyorder.proofs.Answering.{left_refused, left_turned, left_accepted, tested_refused, tested_none, judged_stops, open_stops, table_stops, list_stops, room_passes}
use Rattle.anyorder.proofs.read_listed.Goals as goal

pub returns-in_err-judge_drawing : goal.returns-in_err-judge_drawing
returns-in_err-judge_drawing c =
    left_turned _ _ _ _ c.from_residual.ensures.1 (tested_refused _ _ _ (judged_stops _ _ _ _ _ c.in_err-judge_drawing.ensures.answers (numbered _)) (numbered _))

pub returns-then-not-ended : goal.returns-then-not-ended
returns-then-not-ended c =
    left_refused _ _ (tested_refused _ _ 9 (open_stops _ _ _ _ _ c.in_ok-judge_drawing.ensures.answers c.ended.ensures c.if-not-ended.true) (λ e. omega arith))

pub returns-then-table-table_length : goal.returns-then-table-table_length
returns-then-table-table_length c =
    left_refused _ _ (tested_refused _ _ 10 (table_stops _ _ _ _ _ c.in_ok-judge_drawing.ensures.answers c.ended.ensures c.if-not-ended.false (omega arith)) (λ e. omega arith))

pub returns-then-renumbered-most : goal.returns-then-renumbered-most
returns-then-renumbered-most c =
    left_refused _ _ (tested_refused _ _ 10 (list_stops _ _ _ _ _ c.in_ok-judge_drawing.ensures.answers c.ended.ensures c.if-not-ended.false (omega arith) (omega arith)) (λ e. omega arith))

pub fill_drawing-requires : goal.fill_drawing-requires
fill_drawing-requires c =
    let pre = c.requires in
    (c.in_ok-judge_drawing.ensures, pre.2, pre.3, pre.1, omega arith, omega arith)

pub returns : goal.returns
returns c =
    let none = c.in_ok-judge_drawing.ensures.answers in
    let filled = c.fill_drawing.ensures in
    left_accepted _ _ (tested_none _ _ (room_passes _ _ _ _ _ none c.ended.ensures c.if-not-ended.false (omega arith) (omega arith))) filled.0 filled.1

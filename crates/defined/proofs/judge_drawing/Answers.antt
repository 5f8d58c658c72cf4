-- `defined::judge_drawing` meets its contract: 20, 21 and 22 in turn. Assumes nothing.
use Prim.Native.Nat.{ℕ}
use native.Mathlib.Omega.{arith}
use lib.ListN.{length-replicate}
use Rattle.defined.proofs.Entering.{entered_first}
use Rattle.defined.proofs.Judging.{zeros_at, entered_when, gives_20, gives_21, gives_22, gives_none}
use Rattle.defined.proofs.judge_drawing.Goals as goal

pub enter_lines-requires : goal.enter_lines-requires
enter_lines-requires c =
    let pre = c.requires in
    (pre.0, omega (arith, pre.2.bounded), pre.1, entered_first _ _ (length-replicate {A = ℕ} 4096 0) (zeros_at 4096))

pub returns-then-not-enter_lines : goal.returns-then-not-enter_lines
returns-then-not-enter_lines c = gives_20 _ _ _ _ _ _ c.enter_lines.ensures c.if-not-enter_lines.true

pub returns-then-not-all_defined : goal.returns-then-not-all_defined
returns-then-not-all_defined c =
    let pre = c.requires in
    let good = c.if-not-enter_lines.false in
    let entered = entered_when _ _ _ _ _ c.enter_lines.ensures good in
    gives_21 _ _ _ _ _ _ c.enter_lines.ensures good (c.all_defined.ensures _ _ entered) c.if-not-all_defined.true

pub order_drawing-requires : goal.order_drawing-requires
order_drawing-requires c =
    let pre = c.requires in
    let good = c.if-not-enter_lines.false in
    let entered = entered_when _ _ _ _ _ c.enter_lines.ensures good in
    (pre.2, (_, _, entered), pre.3)

pub returns-then-not-order_drawing : goal.returns-then-not-order_drawing
returns-then-not-order_drawing c =
    let pre = c.requires in
    let good = c.if-not-enter_lines.false in
    let entered = entered_when _ _ _ _ _ c.enter_lines.ensures good in
    gives_22 _ _ _ _ _ _ c.enter_lines.ensures good (c.all_defined.ensures _ _ entered) c.if-not-all_defined.false (c.order_drawing.ensures _ _ entered) c.if-not-order_drawing.true

pub returns : goal.returns
returns c =
    let pre = c.requires in
    let good = c.if-not-enter_lines.false in
    let entered = entered_when _ _ _ _ _ c.enter_lines.ensures good in
    gives_none _ _ _ _ _ _ c.enter_lines.ensures good (c.all_defined.ensures _ _ entered) c.if-not-all_defined.false (c.order_drawing.ensures _ _ entered) c.if-not-order_drawing.false

-- `why::answer` meets its contract: 24 and 10 are tried in order, and then the answer is stored. Assumes nothing.
use mathlib.Core.Path.{refl}
use native.Mathlib.Omega.{arith}
use Rattle.why.proofs.Answering.{lamp_within, lamp_known, answer_unknown, answer_short, answer_done}
use Rattle.why.proofs.answer.Goals as goal

pub returns-then-get-eq0 : goal.returns-then-get-eq0
returns-then-get-eq0 c =
    let pre = c.requires in
    answer_unknown _ _ _ c.args.board.now.legal pre.1 _ c.literals_at.ensures _ refl _ _ c.settle_unknown-values.ensures _ c.get.ensures _ c.if-get-eq0.true

pub returns-then-why-record_length : goal.returns-then-why-record_length
returns-then-why-record_length c =
    let pre = c.requires in
    answer_short _ _ _ c.args.board.now.legal pre.1 _ c.literals_at.ensures _ refl _ _ c.settle_unknown-values.ensures _ c.get.ensures _ c.if-get-eq0.false (omega arith)

pub explain-requires : goal.explain-requires
explain-requires c =
    let pre = c.requires in
    let values = c.settle_unknown-values.ensures in
    (pre.0, values, lamp_within _ _ _ c.args.board.now.legal pre.1 _ c.literals_at.ensures _ refl, lamp_known _ _ _ c.args.board.now.legal pre.1 _ c.literals_at.ensures _ refl _ _ values _ c.get.ensures c.if-get-eq0.false, omega arith)

pub returns : goal.returns
returns c =
    let pre = c.requires in
    answer_done _ _ _ c.args.board.now.legal pre.1 _ c.literals_at.ensures _ refl _ _ c.settle_unknown-values.ensures _ c.get.ensures _ c.if-get-eq0.false (omega arith) c.explain.ensures

-- `defined::all_defined` meets its contract: kind by kind. Assumes nothing.
use Rattle.defined.proofs.Defining.{next_undefined, literal_undefined, left_undefined, rights_decide}
use Rattle.defined.proofs.all_defined.Goals as goal

pub returns-then-not-all_known : goal.returns-then-not-all_known
returns-then-not-all_known c = λ most owns e. next_undefined _ (c.all_known.ensures _ e) c.if-not-all_known.true

pub returns-then-not-all_known-2 : goal.returns-then-not-all_known-2
returns-then-not-all_known-2 c =
    let from = c.literals_at.ensures in
    let count = c.literals.ensures in
    λ most owns e. literal_undefined _ (c.all_known.ensures _ e) c.if-not-all_known.false (rw (from, count) at (c.all_known-2.ensures _ e)) c.if-not-all_known-2.true

pub returns-then-not-all_known-3 : goal.returns-then-not-all_known-3
returns-then-not-all_known-3 c =
    let from = c.literals_at.ensures in
    let count = c.literals.ensures in
    let gate = c.gates_at-gates_at.ensures in
    λ most owns e. left_undefined _ (c.all_known.ensures _ e) c.if-not-all_known.false (rw (from, count) at (c.all_known-2.ensures _ e)) c.if-not-all_known-2.false
    (rw gate at (c.all_known-3.ensures _ e)) c.if-not-all_known-3.true

pub returns : goal.returns
returns c =
    let from = c.literals_at.ensures in
    let count = c.literals.ensures in
    let gate = c.gates_at-gates_at.ensures in
    λ most owns e. rights_decide _ (c.all_known.ensures _ e) c.if-not-all_known.false (rw (from, count) at (c.all_known-2.ensures _ e)) c.if-not-all_known-2.false
    (rw gate at (c.all_known-3.ensures _ e)) c.if-not-all_known-3.false (rw gate at (c.all_known-4.ensures _ e))

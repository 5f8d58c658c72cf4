use mathlib.Core.Path.{ap}
use mathlib.Core.Bool.{not}
use native.Mathlib.Omega.{arith}
use Rattle.why.proofs.Calls.{low_turned, high_turned, nothing_left, cause_call, cause_left, left_call, right_call, both_left}
use Rattle.why.proofs.Gates.+why_one_why_zero.Goals as goal

-- ---- why_one

pub why_one-why_zero-requires : goal.why_one-why_zero-requires
why_one-why_zero-requires t c = (omega arith, high_turned _ _ _ _ _ c.if-x-eq1.true _ c.requires.1 c.requires.0)

pub why_one-returns-then-not-begin : goal.why_one-returns-then-not-begin
why_one-returns-then-not-begin t c = nothing_left _ _ _ _ _ _ c.requires.0 _ _ c.requires.1 c.begin.ensures (ap not c.if-not-begin.true)

pub why_one-why_one-requires : goal.why_one-why_one-requires
why_one-why_one-requires t c =
    let call = left_call _ _ _ _ _ c.requires.0 _ _ c.requires.1 c.begin.ensures (ap not c.if-not-begin.false) (omega arith) _ c.operands-left.ensures.0 in
    (omega (arith, call.0), call.1)

pub why_one-why_one-requires-2 : goal.why_one-why_one-requires-2
why_one-why_one-requires-2 t c =
    let call = right_call _ _ _ _ _ c.requires.0 _ _ c.requires.1 c.begin.ensures (ap not c.if-not-begin.false) (omega arith) _ c.operands-left.ensures.0 _ c.why_one.ensures _ c.operands-left.ensures.1 in
    (omega (arith, call.0), call.1)

pub why_one-returns : goal.why_one-returns
why_one-returns t c =
    both_left _ _ _ _ _ c.requires.0 _ _ c.requires.1 c.begin.ensures (ap not c.if-not-begin.false) (omega arith) _ c.operands-left.ensures.0 _ c.why_one.ensures _ c.operands-left.ensures.1 c.why_one-2.ensures

-- ---- why_zero

pub why_zero-why_one-requires : goal.why_zero-why_one-requires
why_zero-why_one-requires t c = (omega arith, low_turned _ _ _ _ _ c.if-x-eq1.true _ c.requires.1 c.requires.0)

pub why_zero-returns-then-not-begin : goal.why_zero-returns-then-not-begin
why_zero-returns-then-not-begin t c = nothing_left _ _ _ _ _ _ c.requires.0 _ _ c.requires.1 c.begin.ensures (ap not c.if-not-begin.true)

pub why_zero-why_zero-requires : goal.why_zero-why_zero-requires
why_zero-why_zero-requires t c =
    let call = cause_call _ _ _ _ _ c.requires.0 _ _ c.requires.1 c.begin.ensures (ap not c.if-not-begin.false) (omega arith) _ c.low_operand-cause.ensures in
    (omega (arith, call.0), call.1)

pub why_zero-returns : goal.why_zero-returns
why_zero-returns t c =
    cause_left _ _ _ _ _ c.requires.0 _ _ c.requires.1 c.begin.ensures (ap not c.if-not-begin.false) (omega arith) _ c.low_operand-cause.ensures c.why_zero.ensures

use mathlib.Core.Path.{sym, ◌∙◌}
use Rattle.lines.proofs.Numbers.{digit_beyond, digit_not, digit_given, digit_within, digits_none, digits_first, digits_stop, digits_over, digits_next}
use native.Mathlib.Omega.{arith}
use Rattle.lines.proofs.read_number.Goals as goal

pub returns-in_err-value : goal.returns-in_err-value
returns-in_err-value c = rw c.from_residual.ensures (digits_none _ _ c.in_err-value.ensures)

pub overflow_add-next : goal.overflow_add-next
overflow_add-next c = omega (arith, digit_within _ _ c.in_ok-value.ensures)

pub loop-byte-init : goal.loop-byte-init
loop-byte-init c = digits_first _ _ c.in_ok-value.ensures

pub returns-in_default : goal.returns-in_default
returns-in_default c = digits_stop _ _ c.loop-byte.invariant (digit_beyond _ _ c.in_default.ensures.lookup.3)

pub returns-then-not-is_ascii_digit : goal.returns-then-not-is_ascii_digit
returns-then-not-is_ascii_digit c =
    let byte = c.in-Some.ensures.lookup.3 in
    digits_stop _ _ c.loop-byte.invariant (digit_not _ _ byte.0 (byte.1 0) c.is_ascii_digit.ensures.value c.if-not-is_ascii_digit.true)

pub returns-then-not-may_grow : goal.returns-then-not-may_grow
returns-then-not-may_grow c =
    let byte = c.in-Some.ensures.lookup.3 in
    digits_over _ _ c.loop-byte.invariant (digit_given _ _ byte.0 (byte.1 0) c.is_ascii_digit.ensures.value c.if-not-is_ascii_digit.false) (sym c.may_grow.ensures ∙ c.if-not-may_grow.true)

pub loop-byte-preserved : goal.loop-byte-preserved
loop-byte-preserved c =
    let byte = c.in-Some.ensures.lookup.3 in
    rw c.from.ensures (digits_next _ _ c.loop-byte.invariant (digit_given _ _ byte.0 (byte.1 0) c.is_ascii_digit.ensures.value c.if-not-is_ascii_digit.false) (sym c.may_grow.ensures ∙ c.if-not-may_grow.false))

-- `lines::digit_at` meets its contract: a byte, and its test. Assumes nothing.
use Rattle.lines.proofs.Numbers.{digit_beyond, digit_not, digit_given}
use Rattle.lines.proofs.digit_at.Goals as goal

pub returns-in_err-byte : goal.returns-in_err-byte
returns-in_err-byte c = rw c.from_residual.ensures (digit_beyond _ _ c.in_err-byte.ensures.lookup.3)

pub returns-then-not-is_ascii_digit : goal.returns-then-not-is_ascii_digit
returns-then-not-is_ascii_digit c =
    let byte = c.in_ok-byte.ensures.lookup.3 in
    digit_not _ _ byte.0 (byte.1 0) c.is_ascii_digit.ensures.value c.if-not-is_ascii_digit.true

pub returns : goal.returns
returns c =
    let byte = c.in_ok-byte.ensures.lookup.3 in
    rw c.from.ensures (digit_given _ _ byte.0 (byte.1 0) c.is_ascii_digit.ensures.value c.if-not-is_ascii_digit.false)

-- `writer::digits` meets its contract: each test fixes the length. Assumes nothing.
use native.Mathlib.Omega.{arith}
use Rattle.writer.proofs.DigitCounts.{digits_one, digits_two, digits_three, digits_four}
use Rattle.writer.proofs.digits.Goals as goal

pub returns-then-n-lt10 : goal.returns-then-n-lt10
returns-then-n-lt10 c = digits_one _ (omega arith)

pub returns-then-n-lt100 : goal.returns-then-n-lt100
returns-then-n-lt100 c = digits_two _ (omega arith) (omega arith)

pub returns-then-n-lt1000 : goal.returns-then-n-lt1000
returns-then-n-lt1000 c = digits_three _ (omega arith) (omega arith)

pub returns : goal.returns
returns c = digits_four _ (omega arith) (omega arith)

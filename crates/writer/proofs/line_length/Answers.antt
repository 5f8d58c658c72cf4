-- `writer::line_length` meets its contract: each number has its digits and a byte behind it. Assumes nothing.
use Rattle.writer.proofs.WrittenLine.{one_length, two_length, three_length}
use native.Mathlib.Omega.{arith}
use Rattle.writer.proofs.line_length.Goals as goal

pub returns-in-One : goal.returns-in-One
returns-in-One c = omega (arith, one_length c.in-One.is)

pub returns-in-Two : goal.returns-in-Two
returns-in-Two c = omega (arith, two_length c.in-Two.is)

pub returns-in-Three : goal.returns-in-Three
returns-in-Three c = omega (arith, three_length c.in-Three.is)

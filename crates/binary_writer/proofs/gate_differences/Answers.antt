-- `binary_writer::gate_differences` meets its contract: the larger operand is the one that the other is not above. Assumes nothing.
use native.Mathlib.Omega.{arith}
use Rattle.binary_writer.proofs.PuttingGates.{right_larger, left_larger}
use Rattle.binary_writer.proofs.gate_differences.Goals as goal

pub returns-then-left-right : goal.returns-then-left-right
returns-then-left-right c = right_larger _ _ _ (omega arith)

pub returns : goal.returns
returns c = left_larger _ _ _ (omega arith)

-- `binary_writer::difference_length` meets its contract: one group, or two. Assumes nothing.
use native.Mathlib.Omega.{arith}
use Rattle.binary_writer.proofs.PuttingGates.{length_one, length_two}
use Rattle.binary_writer.proofs.difference_length.Goals as goal

pub returns-then-n-lt128 : goal.returns-then-n-lt128
returns-then-n-lt128 c = (omega (arith, length_one c.args.n (omega arith)), omega arith)

pub returns : goal.returns
returns c = (omega (arith, length_two c.args.n (omega arith) (omega arith)), omega arith)

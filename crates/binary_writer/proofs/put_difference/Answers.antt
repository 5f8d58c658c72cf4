-- `binary_writer::put_difference` meets its contract: one group, or two. Assumes nothing.
use native.Mathlib.Omega.{arith}
use lib.ListN.{length-set}
use Rattle.binary_writer.proofs.PuttingGates.{length_one, length_two, put_one, put_two}
use Rattle.binary_writer.proofs.put_difference.Goals as goal

pub bounds-text-at : goal.bounds-text-at
bounds-text-at c = omega (arith, length_one c.args.n (omega arith))

pub returns-then-n-lt128 : goal.returns-then-n-lt128
returns-then-n-lt128 c = put_one _ _ _ (omega arith)

pub bounds-text-at-2 : goal.bounds-text-at-2
bounds-text-at-2 c = omega (arith, length_two c.args.n (omega arith) (omega arith))

pub bounds-text-at-3 : goal.bounds-text-at-3
bounds-text-at-3 c = simp length-set (omega (arith, length_two c.args.n (omega arith) (omega arith)))

pub returns : goal.returns
returns c = put_two _ _ _ (omega arith) (omega arith)

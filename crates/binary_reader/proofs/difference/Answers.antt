-- `binary_reader::difference` meets its contract: its tests are those of `read_difference`. Assumes nothing.
use native.Mathlib.Omega.{arith}
use Rattle.binary_reader.proofs.Finding.{found_beyond, found_one, found_cut, found_zero, found_long, found_two}
use Rattle.binary_reader.proofs.difference.Goals as goal

pub returns-then-at-text : goal.returns-then-at-text
returns-then-at-text c = found_beyond _ _ (omega arith)

pub returns-then-low-lt128 : goal.returns-then-low-lt128
returns-then-low-lt128 c = found_one _ _ (omega arith) (omega arith)

pub returns-then-at-text-2 : goal.returns-then-at-text-2
returns-then-at-text-2 c = found_cut _ _ (omega arith) (omega arith) (omega arith)

pub returns-then-high-eq0 : goal.returns-then-high-eq0
returns-then-high-eq0 c = found_zero _ _ (omega arith) (omega arith) (omega arith) (omega arith)

pub returns-then-high-ge128 : goal.returns-then-high-ge128
returns-then-high-ge128 c = found_long _ _ (omega arith) (omega arith) (omega arith) (omega arith)

pub returns : goal.returns
returns c = found_two _ _ (omega arith) (omega arith) (omega arith) (λ z. omega arith) (omega arith)

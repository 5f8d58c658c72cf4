-- `binary_reader::gate_row` meets its contract: 26, and then the tests of 7 in order. Assumes nothing.
use native.Mathlib.Omega.{arith}
use Rattle.binary_reader.proofs.Finding.{row_ill, row_zero, row_over, row_second, row_given}
use Rattle.binary_reader.proofs.gate_row.Goals as goal

pub returns-in_default : goal.returns-in_default
returns-in_default c = row_ill _ _ _ c.in_default.ensures

pub returns-then-found-eq0 : goal.returns-then-found-eq0
returns-then-found-eq0 c = row_zero _ _ _ c.in-Some.ensures c.if-found-eq0.true

pub returns-then-found-own : goal.returns-then-found-own
returns-then-found-own c = row_over _ _ _ c.in-Some.ensures (λ z. omega arith) (omega arith)

pub returns-then-found-left : goal.returns-then-found-left
returns-then-found-left c = row_second _ _ _ c.in-Some.ensures (λ z. omega arith) (omega arith) (omega arith)

pub returns : goal.returns
returns c = row_given _ _ _ c.in-Some.ensures (λ z. omega arith) (omega arith) (omega arith)

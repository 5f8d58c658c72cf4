-- `reader::gate_refusal` meets its contract: its tests are made in the order of the list. Assumes nothing.
use native.Mathlib.Omega.{arith}
use Rattle.reader.proofs.Judging.{gate_count, gate_own, gate_left_over, gate_right_over, gate_left, gate_right, gate_passes}
use Rattle.reader.proofs.gate_refusal.Goals as goal

pub returns-then-found-ne3 : goal.returns-then-found-ne3
returns-then-found-ne3 c = gate_count _ _ _ (λ e. omega arith)

pub returns-then-given-own : goal.returns-then-given-own
returns-then-given-own c = gate_own _ _ _ (omega arith) (λ e. omega arith)

pub returns-then-left-most : goal.returns-then-left-most
returns-then-left-most c = gate_left_over _ _ _ (omega arith) (omega arith) (omega arith)

pub returns-then-right-most : goal.returns-then-right-most
returns-then-right-most c = gate_right_over _ _ _ (omega arith) (omega arith) (omega arith) (omega arith)

pub returns-then-left-own : goal.returns-then-left-own
returns-then-left-own c = gate_left _ _ _ (omega arith) (omega arith) (omega arith) (omega arith) (omega arith)

pub returns-then-right-own : goal.returns-then-right-own
returns-then-right-own c = gate_right _ _ _ (omega arith) (omega arith) (omega arith) (omega arith) (omega arith) (omega arith)

pub returns : goal.returns
returns c = gate_passes _ _ _ (omega arith) (omega arith) (omega arith) (omega arith) (omega arith) (omega arith)

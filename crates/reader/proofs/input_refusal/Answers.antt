-- `reader::input_refusal` meets its contract: its tests are made in the order of the list. Assumes nothing.
use native.Mathlib.Omega.{arith}
use Rattle.reader.proofs.Judging.{input_count, input_own, input_passes}
use Rattle.reader.proofs.input_refusal.Goals as goal

pub returns-then-found-ne1 : goal.returns-then-found-ne1
returns-then-found-ne1 c = λ most. input_count _ _ _ (λ e. omega arith)

pub returns-then-entry-own : goal.returns-then-entry-own
returns-then-entry-own c = λ most. input_own _ _ _ (omega arith) (λ e. omega arith)

pub returns : goal.returns
returns c = λ most. input_passes _ _ _ (omega arith) (omega arith)

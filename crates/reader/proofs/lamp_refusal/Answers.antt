-- `reader::lamp_refusal` meets its contract: its tests are made in the order of the list. Assumes nothing.
use native.Mathlib.Omega.{arith}
use Rattle.reader.proofs.Judging.{lamp_count, lamp_over, lamp_passes}
use Rattle.reader.proofs.lamp_refusal.Goals as goal

pub returns-then-found-ne1 : goal.returns-then-found-ne1
returns-then-found-ne1 c = lamp_count _ _ (λ e. omega arith)

pub returns-then-entry-most : goal.returns-then-entry-most
returns-then-entry-most c = lamp_over _ _ (omega arith) (omega arith)

pub returns : goal.returns
returns c = lamp_passes _ _ (omega arith) (omega arith)

-- `reader::latch_refusal` meets its contract: its tests are made in the order of the list. Assumes nothing.
use native.Mathlib.Omega.{arith}
use Rattle.reader.proofs.Judging.{latch_few, latch_many, latch_own, latch_over, latch_reset, latch_passes}
use Rattle.reader.proofs.latch_refusal.Goals as goal

pub returns-then-found-lt2 : goal.returns-then-found-lt2
returns-then-found-lt2 c = latch_few _ _ _ (omega arith)

pub returns-then-found-gt3 : goal.returns-then-found-gt3
returns-then-found-gt3 c = latch_many _ _ _ (omega arith)

pub returns-then-entry-own : goal.returns-then-entry-own
returns-then-entry-own c = latch_own _ _ _ (omega arith) (omega arith) (λ e. omega arith)

pub returns-then-entry-most : goal.returns-then-entry-most
returns-then-entry-most c = latch_over _ _ _ (omega arith) (omega arith) (omega arith) (omega arith)

pub returns-then-reset_word-gt2 : goal.returns-then-reset_word-gt2
returns-then-reset_word-gt2 c = latch_reset _ _ _ (omega arith) (omega arith) (omega arith) c.reset_word.ensures (omega arith) (omega arith)

pub returns : goal.returns
returns c = latch_passes _ _ _ (omega arith) (omega arith) (omega arith) c.reset_word.ensures (omega arith) (omega arith)

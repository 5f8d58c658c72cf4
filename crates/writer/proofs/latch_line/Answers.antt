-- `writer::latch_line` meets its contract: a reset of 0 is absent. Assumes nothing.
use native.Mathlib.Omega.{arith}
use Rattle.writer.proofs.WrittenLine.{latch_plain_lem}
use Rattle.writer.proofs.latch_line.Goals as goal

pub returns-then-reset-eq0 : goal.returns-then-reset-eq0
returns-then-reset-eq0 c = latch_plain_lem (omega arith) (omega arith) c.if-reset-eq0.true

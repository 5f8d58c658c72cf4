-- `binary_writer::latch_row` meets its contract: a reset of 0 is left out. Assumes nothing.
use native.Mathlib.Omega.{arith}
use Rattle.binary_writer.proofs.RowLines.{latch_plain_lem}
use Rattle.binary_writer.proofs.latch_row.Goals as goal

pub returns-then-reset-eq0 : goal.returns-then-reset-eq0
returns-then-reset-eq0 c = latch_plain_lem (omega arith) c.if-reset-eq0.true

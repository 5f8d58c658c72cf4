-- The binary form's `line` meets its contract: a line, and for a latch its own literal in front. Assumes nothing.
use Rattle.binary_reader.proofs.OwnLine.{line_few, latch_row, other_row}
use Rattle.binary_reader.proofs.Judging.{row_shown}
use Rattle.binary_reader.proofs.RowsForm.line.Goals as goal

pub with_own-requires : goal.with_own-requires
with_own-requires c = line_few _ _ c.line-found.ensures

pub returns-in-Latch : goal.returns-in-Latch
returns-in-Latch c = row_shown _ _ _ _ _ c.requires.1 (latch_row c.line-found.ensures c.in-Latch.is c.with_own.ensures.0 c.with_own.ensures.1)

pub returns-in_default : goal.returns-in_default
returns-in_default c = row_shown _ _ _ _ _ c.requires.1 (other_row c.line-found.ensures _ _ c.in_default.not-Latch)

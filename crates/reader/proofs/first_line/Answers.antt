-- `reader::first_line` meets its contract: the four bytes, and then a line. Assumes nothing.
use Rattle.reader.proofs.FirstLine.{header_none, header_line}
use native.Mathlib.Omega.{arith}
use Rattle.reader.proofs.first_line.Goals as goal

pub returns-then-not-starts_with : goal.returns-then-not-starts_with
returns-then-not-starts_with c = rw (header_none _ _ _ c.starts_with.ensures.value c.if-not-starts_with.true) (c.no_line.ensures _ (omega arith))

pub returns : goal.returns
returns c = rw (header_line _ _ _ c.starts_with.ensures.value c.requires c.if-not-starts_with.false) c.line.ensures

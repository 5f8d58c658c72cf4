-- `reader::opening_of` meets its contract: a first line that ends in byte 10 decides, and any other text is read as one of an office computer. Assumes nothing.
use native.Mathlib.Omega.{arith}
use Rattle.lines.proofs.Finding.{line_got, line_ill_formed}
use Rattle.text.proofs.Endings.{ending_plain, ending_office}
use Rattle.reader.proofs.opening_of.Goals as goal

pub returns-then-first-ne0 : goal.returns-then-first-ne0
returns-then-first-ne0 c = let first = c.header-first.ensures in (first, ending_plain _ (line_got _ first (omega arith)))

pub returns : goal.returns
returns c = (c.header.ensures, ending_office _ (line_ill_formed _ c.header-first.ensures c.if-first-ne0.false))

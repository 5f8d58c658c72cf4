-- `lines::ReadLine::entry` meets its contract: the array has the numbers that the line has. Assumes nothing.
use Rattle.lines.proofs.Finding.{entry_absent, entry_given}
use Rattle.lines.proofs.read_line.ReadLine.entry.Goals as goal

pub returns-then-i-self : goal.returns-then-i-self
returns-then-i-self c = entry_absent _ _ c.if-i-self.true

pub returns : goal.returns
returns c = entry_given _ _ c.if-i-self.false

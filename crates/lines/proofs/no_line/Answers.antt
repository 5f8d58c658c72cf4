-- `lines::no_line` meets its contract: a line has at least one number. Assumes nothing.
use Rattle.lines.proofs.Finding.{found_none}
use Rattle.lines.proofs.no_line.Goals as goal

pub returns : goal.returns
returns c = λ text h. found_none text _ _ _ h

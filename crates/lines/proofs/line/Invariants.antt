-- `lines::line` meets its contract: each number is found in turn, as `Pieces` says. Assumes nothing.
use Rattle.lines.specs.LinesInCode.{ending_bytes}
use Rattle.lines.proofs.Finding.{Pieces}
use Rattle.lines.proofs.line.Given as goal

abbrev pub invariant-loop-k : goal.invariant-loop-k
invariant-loop-k l = Pieces (ending_bytes l.ending) l.text l.at l.most l.numbers l.next l.k

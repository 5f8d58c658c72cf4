-- Each byte leaves less of the text.
use Rattle.std.proofs.Common.{length}
use Rattle.vectors.proofs.parts.unspell.Given as goal

abbrev pub decreases-loop-rest : goal.decreases-loop-rest
decreases-loop-rest l = length l.rest

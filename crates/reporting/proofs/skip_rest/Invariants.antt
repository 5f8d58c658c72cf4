-- Each piece leaves less to take.
use Rattle.reporting.proofs.skip_rest.Given as goal

abbrev pub decreases-loop-left : goal.decreases-loop-left
decreases-loop-left l = l.left

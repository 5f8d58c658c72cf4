-- `why::Gates::why_zero` and `why_one` meet their contracts. The measure of both is the literal: an inverted one falls by 1, and an operand is below its gate's own. Assumes nothing.
use Rattle.why.proofs.Gates.+why_one_why_zero.Given as goal

abbrev pub decreases-why_one : goal.decreases-why_one
decreases-why_one l = l.x

abbrev pub decreases-why_zero : goal.decreases-why_zero
decreases-why_zero l = l.x

-- `defined::enter_lines` meets its contract: each line is entered in turn. Assumes nothing.
use mathlib.Core.List.{[]}
use Rattle.defined.specs.Places.{held, Entered}
use Rattle.defined.proofs.enter_lines.Given as goal

abbrev pub invariant-loop-k : goal.invariant-loop-k
invariant-loop-k l = Entered (held l.most l.counts l.owns []) l.k l.places

-- `reports::add_sizes` meets its contract: each size is added in turn, as `Added` says. Assumes nothing.
use Rattle.reports.proofs.Sizes.{Added}
use Rattle.reports.proofs.add_sizes.Given as goal

abbrev pub invariant-loop-k : goal.invariant-loop-k
invariant-loop-k l = Added l.stream l.at l.texts l.value l.next l.k

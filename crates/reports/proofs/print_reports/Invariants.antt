-- Each report leaves fewer texts, and those stay framed.
use Rattle.reports.specs.ReportsInCode.{Framed}
use Rattle.reports.proofs.print_reports.Given as goal

abbrev pub invariant-loop-left : goal.invariant-loop-left
invariant-loop-left l = Framed l.stream l.left

abbrev pub decreases-loop-left : goal.decreases-loop-left
decreases-loop-left l = l.left.texts

-- Each line leaves fewer cubes.
use Rattle.std.proofs.Common.{◌-◌}
use Rattle.why_report.proofs.KnownLamp.print_groups.Given as goal

abbrev pub decreases-loop-from : goal.decreases-loop-from
decreases-loop-from l = l.self.n - l.from

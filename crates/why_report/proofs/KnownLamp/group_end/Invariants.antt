-- `why_report::KnownLamp::group_end` meets its contract: cube after cube, until the explanation changes. Assumes nothing.
use mathlib.Core.Path.{◌≡◌}
use Prim.Native.Nat.{◌-◌}
use lib.ListN.{length}
use Rattle.reasons.proofs.Groups.{Group}
use Rattle.why_report.specs.WhyReportInCode.{explanation_in}
use Rattle.why_report.proofs.KnownLamp.group_end.Given as goal

abbrev pub invariant-loop-k : goal.invariant-loop-k
invariant-loop-k l = Group (explanation_in l.self.counts l.self.table.now l.self.cubes.now l.self.lamp) l.self.n l.from l.k × (length l.next ≡ 128)

abbrev pub decreases-loop-k : goal.decreases-loop-k
decreases-loop-k l = l.self.n - l.k

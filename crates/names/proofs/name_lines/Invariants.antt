-- `names::name_lines` meets its contract: each number in turn. Assumes nothing.
use mathlib.Core.Path.{◌≡◌}
use Prim.Native.Nat.{◌+◌, ◌≤◌}
use lib.ListN.{length}
use Rattle.drawn.specs.Drawing.{Drawing}
use Rattle.drawn.proofs.Proper.{Proper}
use Rattle.names.specs.Naming.{Of, Marked}
use Rattle.names.proofs.name_lines.Given as goal

abbrev pub invariant-loop-r : goal.invariant-loop-r
invariant-loop-r l = (length l.names ≡ 4096) × (l.r ≤ l.leaves + l.gates) × ((d : Drawing) → Proper d → Of d l.owns l.order l.leaves l.gates → Marked d l.r l.names)

-- `stored::search` meets its contract: records are passed in turn; the inner loop changes neither k nor at. Assumes nothing.
use mathlib.Core.Path.{◌≡◌}
use Prim.Native.Nat.{◌-◌}
use Rattle.stored.proofs.Searching.{Outer, Inner}
use Rattle.stored.proofs.search.Given as goal

abbrev pub invariant-loop-i : goal.invariant-loop-i
invariant-loop-i l = Inner l.cubes l.b l.len l.n l.k l.at l.i × (l.k ≡ l.initial.k)

abbrev pub invariant-stored : goal.invariant-stored
invariant-stored l = Outer l.cubes l.b l.len l.n l.k l.at

abbrev pub decreases-stored : goal.decreases-stored
decreases-stored l = l.n - l.k

abbrev pub decreases-loop-i : goal.decreases-loop-i
decreases-loop-i l = l.len - l.i

-- `judge::merge_cubes` meets its contract: the cubes from j on are merged one after the other. Assumes nothing.
use Prim.Native.Nat.{◌≤◌}
use Rattle.judge.proofs.Latches.{Settled}
use Rattle.judge.proofs.merge_cubes.Given as goal

abbrev pub invariant-loop-k : goal.invariant-loop-k
invariant-loop-k l = Settled l.latches l.cubes l.j l.initial.common l.common l.k × (l.k ≤ l.n)

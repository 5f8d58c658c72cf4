-- `table::latches_kept` meets its contract: each line is tried in turn. Assumes nothing.
use Prim.Native.Nat.{◌*◌}
use Rattle.three.proofs.Loops.{Tried}
use Rattle.circuit.specs.RulesInCode.{latch_kept}
use Rattle.table.proofs.latches_kept.Given as goal

abbrev pub invariant-loop-i : goal.invariant-loop-i
invariant-loop-i l = Tried l.count (λ k. latch_kept l.most l.table (2 * k)) l.i

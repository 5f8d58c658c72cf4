-- `table::gates_kept` meets its contract: each line is tried in turn. Assumes nothing.
use Prim.Native.Nat.{◌+◌, ◌*◌}
use Rattle.three.proofs.Loops.{Tried}
use Rattle.circuit.specs.RulesInCode.{gate_kept}
use Rattle.table.proofs.gates_kept.Given as goal

abbrev pub invariant-loop-i : goal.invariant-loop-i
invariant-loop-i l = Tried l.count (λ k. gate_kept (l.own + 2 * k) l.table (l.at + 2 * k)) l.i

-- `table::literals_kept` meets its contract: each literal is tried in turn. Assumes nothing.
use Prim.Native.Nat.{◌+◌}
use Rattle.three.proofs.Loops.{Tried}
use Rattle.circuit.specs.RulesInCode.{literal_kept}
use Rattle.table.proofs.literals_kept.Given as goal

abbrev pub invariant-loop-word : goal.invariant-loop-word
invariant-loop-word l = Tried l.count (λ k. literal_kept l.most l.table (l.at + k)) l.word-index

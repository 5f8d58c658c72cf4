-- `pass::gates` meets its contract: each gate is taken in turn, as `Turn` says. Assumes nothing.
use Rattle.pass.specs.ValuesInCode.{values_of}
use Rattle.pass.proofs.Passing.{Turn}
use Rattle.pass.proofs.gates.Given as goal

abbrev pub invariant-loop-i : goal.invariant-loop-i
invariant-loop-i l = Turn l.table l.at l.first l.count (values_of l.initial.values.bytes) (values_of l.values.bytes) l.i

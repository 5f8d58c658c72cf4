-- `pass::gate_bytes` meets its contract: four gates more at each turn. Assumes nothing.
use mathlib.Core.Path.{◌≡◌}
use Prim.Native.Nat.{◌*◌, ◌≤◌}
use Rattle.pass.specs.ValuesInCode.{values_of, passed}
use Rattle.pass.proofs.gate_bytes.Given as goal

abbrev pub invariant-loop-k : goal.invariant-loop-k
invariant-loop-k l = (values_of l.values.bytes ≡ passed l.table l.at (4 * l.byte) (4 * l.k) (values_of l.initial.values.bytes)) × (l.k ≤ l.count)

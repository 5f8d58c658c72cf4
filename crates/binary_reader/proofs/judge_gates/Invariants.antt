-- `binary_reader::judge_gates` meets its contract: each gate is judged in turn, as `Turns` says. Assumes nothing.
use Prim.Native.Nat.{ℕ}
use Rattle.circuit.specs.Table.{gate}
use Rattle.reader.proofs.Bodies.{Turns}
use Rattle.binary.specs.Binary.{read_rows}
use Rattle.binary_reader.proofs.judge_gates.Given as goal

abbrev pub invariant-loop-i : goal.invariant-loop-i
invariant-loop-i l = (most : ℕ) → Turns (read_rows most) l.text l.at gate l.own l.count l.next l.i

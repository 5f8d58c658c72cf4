-- `table::gate_kept` meets its contract: its two tests are rule 7. Assumes nothing.
use Prim.Native.Nat.{◌+◌}
use borrow.Author.Tests.{le-ltb, lt-ltb}
use Rattle.circuit.specs.RulesInCode.{gate_kept}
use Rattle.circuit.proofs.Rules.{and_fails, and_holds}
use native.Mathlib.Omega.{arith}
use Rattle.table.proofs.gate_kept.Goals as goal

pub overflow_cast-left : goal.overflow_cast-left
overflow_cast-left c = omega (arith, c.type_inv.table c.args.at)

pub returns-then-left-own : goal.returns-then-left-own
unfolding gate_kept
returns-then-left-own c = and_fails _ (le-ltb _ _ c.if-left-own.true)

pub overflow_cast-right : goal.overflow_cast-right
overflow_cast-right c = omega (arith, c.type_inv.table (c.args.at + 1))

pub returns : goal.returns
unfolding gate_kept
returns c = and_holds _ (lt-ltb _ _ c.if-left-own.false)

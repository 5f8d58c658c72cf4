-- `table::latch_kept` meets its contract: its two tests are rules 6 and 8. Assumes nothing.
use borrow.Author.Tests.{lt-leb, le-leb}
use Rattle.circuit.specs.RulesInCode.{latch_kept}
use Rattle.circuit.proofs.Rules.{and_fails, and_holds}
use Rattle.table.proofs.latch_kept.Goals as goal

pub returns-then-table-at : goal.returns-then-table-at
unfolding latch_kept
returns-then-table-at c = and_fails _ (lt-leb _ _ c.if-table-at.true)

pub returns : goal.returns
unfolding latch_kept
returns c = and_holds _ (le-leb _ _ c.if-table-at.false)

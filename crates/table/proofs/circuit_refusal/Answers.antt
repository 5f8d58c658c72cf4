-- `table::circuit_refusal` meets its contract: its blocks of tests are made in the order of the list. Assumes nothing.
use Rattle.circuit.specs.Table.{circuit_tests}
use Rattle.circuit.proofs.Answering.{went_on, turned_whole}
use Rattle.circuit.proofs.Refusals.{none_past}
use Rattle.circuit.proofs.Legality.{ceilings_numbered, bounded}
use Rattle.table.proofs.circuit_refusal.Goals as goal

pub returns-in_err-ceiling_refusal : goal.returns-in_err-ceiling_refusal
unfolding circuit_tests
returns-in_err-ceiling_refusal c = turned_whole _ _ _ _ c.from_residual.ensures.1 c.in_err-ceiling_refusal.ensures

pub word_refusal-requires : goal.word_refusal-requires
word_refusal-requires c = bounded _ (went_on _ c.in_ok-ceiling_refusal.was c.ceiling_refusal.ensures)

pub returns : goal.returns
unfolding circuit_tests
returns c = none_past _ _ (ceilings_numbered _) (went_on _ c.in_ok-ceiling_refusal.was c.ceiling_refusal.ensures) c.word_refusal.ensures

-- `table::board_refusal` meets its contract: its blocks of tests are made in the order of the list. Assumes nothing.
use native.Mathlib.Omega.{arith}
use Rattle.circuit.specs.Table.{board_tests}
use Rattle.circuit.proofs.Answering.{went_on, turned_whole}
use Rattle.circuit.proofs.Legality.{bounded, board_lampless, board_lit}
use Rattle.table.proofs.board_refusal.Goals as goal

pub returns-in_err-ceiling_refusal : goal.returns-in_err-ceiling_refusal
unfolding board_tests
returns-in_err-ceiling_refusal c = turned_whole _ _ _ _ c.from_residual.ensures.1 c.in_err-ceiling_refusal.ensures

pub verdicts-requires : goal.verdicts-requires
verdicts-requires c = bounded _ (went_on _ c.in_ok-ceiling_refusal.was c.ceiling_refusal.ensures)

pub returns-then-verdicts-eq0 : goal.returns-then-verdicts-eq0
returns-then-verdicts-eq0 c = board_lampless _ _ (bounded _ (went_on _ c.in_ok-ceiling_refusal.was c.ceiling_refusal.ensures)) (omega arith)

pub word_refusal-requires : goal.word_refusal-requires
word_refusal-requires c = bounded _ (went_on _ c.in_ok-ceiling_refusal.was c.ceiling_refusal.ensures)

pub returns : goal.returns
returns c =
    board_lit _ _ (bounded _ (went_on _ c.in_ok-ceiling_refusal.was c.ceiling_refusal.ensures)) (omega arith)
    c.word_refusal.ensures

-- `table::legal_board` meets its contract: what is not refused is legal. Assumes nothing.
use Rattle.circuit.proofs.Answering.{went_on}
use Rattle.circuit.proofs.Legality.{board_legal}
use Rattle.table.proofs.legal_board.Goals as goal

pub invariant_of-result : goal.invariant_of-result
invariant_of-result c = record { legal = board_legal _ _ (went_on _ c.in_ok-board_refusal.was c.board_refusal.ensures) }

-- `judge::given_refusal` meets its contract: its blocks of tests are made in the order of the list. Assumes nothing.
use Rattle.circuit.proofs.Refusals.{none_past}
use Rattle.circuit.proofs.Answering.{turned_whole, handed_back}
use Rattle.circuit.proofs.Legality.{board_numbered}
use Rattle.judge.proofs.given_refusal.Goals as goal

pub returns-in_err-board-clause-number : goal.returns-in_err-board-clause-number
returns-in_err-board-clause-number c = turned_whole _ _ _ _ c.from_residual.ensures.1 c.in_err-board.ensures.number

pub returns-in_err-cubes_refusal-clause-number : goal.returns-in_err-cubes_refusal-clause-number
returns-in_err-cubes_refusal-clause-number c =
    handed_back _ _ c.from_residual-in_err-cubes_refusal.ensures.1 (none_past _ _ (board_numbered _ _) c.in_ok-board.ensures.number c.in_err-cubes_refusal.ensures)

pub returns-clause-number : goal.returns-clause-number
returns-clause-number c =
    none_past _ _ (board_numbered _ _) c.in_ok-board.ensures.number c.in_ok-cubes_refusal.ensures

-- `beginner_board::chain_beginners` meets its contract: refused, or the chain made, which has closed. Assumes nothing.
use Rattle.beginners.proofs.Closing.{accepted_board, one_fits, always_closes}
use Rattle.beginner_board.proofs.Calling.{run_refused, run_made, run_ok}
use Rattle.beginner_board.proofs.chain_beginners.Goals as goal

pub returns-in_err-board : goal.returns-in_err-board
returns-in_err-board c = let chained = run_refused _ _ _ c.from_residual.ensures.1 c.in_err-board.ensures.number in (chained, always_closes _ _ _ chained)

pub make_chain-requires : goal.make_chain-requires
make_chain-requires c =
    let ok = accepted_board _ _ _ c.in_ok-board.ensures.number in
    rw c.in_ok-board.ensures.same.0 (one_fits ok.small ok.room, ok.most)

pub unwrap-requires : goal.unwrap-requires
unwrap-requires c =
    let board = c.in_ok-board.ensures in
    run_ok _ board.number _ _ (rw (board.same.0, board.same.1) at c.make_chain.ensures)

pub returns : goal.returns
returns c =
    let board = c.in_ok-board.ensures in
    let chained = run_made _ board.number _ _ (rw (board.same.0, board.same.1) at (rw c.unwrap.ensures at c.make_chain.ensures)) in
    (chained, always_closes _ _ _ chained)

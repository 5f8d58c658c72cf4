-- `chained::chain` meets its contract: refused, with no room for a cube more, or stopped. Assumes nothing.
use Rattle.chained.proofs.Refusing.{accepted_chain}
use Rattle.chained.proofs.Calling.{chain_refused, chain_full, chain_stopped}
use Rattle.cubes.proofs.Chaining.{closing}
use Rattle.cubes.proofs.Trusted.{singles}
use Rattle.chained.proofs.chain.Goals as goal

pub returns-in_err-board : goal.returns-in_err-board
returns-in_err-board c =
    let chained = chain_refused _ _ _ c.from_residual.ensures.1 c.in_err-board.ensures.number in (chained, closing _ _ _ chained, singles _ _ _ chained)

pub make_chain-requires : goal.make_chain-requires
make_chain-requires c =
    let ok = accepted_chain _ _ _ _ c.in_ok-board.ensures.number in
    rw c.in_ok-board.ensures.same.0 (ok.one, ok.small)

pub returns-in_err-made : goal.returns-in_err-made
returns-in_err-made c =
    let board = c.in_ok-board.ensures in
    let made = rw (board.same.0, board.same.1) at c.in_err-made.ensures in
    let chained = chain_full _ board.number _ _ _ c.from_residual-in_err-made.ensures.1 made in
    (chained, closing _ _ _ chained, singles _ _ _ chained)

pub returns : goal.returns
returns c =
    let board = c.in_ok-board.ensures in
    let made = rw (board.same.0, board.same.1) at c.in_ok-made.ensures in
    let chained = chain_stopped _ board.number _ _ made in
    (chained, closing _ _ _ chained, singles _ _ _ chained)

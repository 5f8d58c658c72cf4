-- `stored::blocked` meets its contract: without constraints nothing is blocked, and else they are read from a pass over the cube. Assumes nothing.
use Rattle.three.proofs.Pack.{length_unpack}
use Rattle.stored.proofs.Reaching.{state_settles, ready_again, blocked_reached}
use Rattle.stored.proofs.Constraining.{free_of}
use Rattle.stored.proofs.blocked.Goals as goal

pub returns-then-board-eq0 : goal.returns-then-board-eq0
returns-then-board-eq0 c = (free_of c.args.board.now.counts _ c.if-board-eq0.true _, c.requires.1)

pub returns : goal.returns
returns c =
    let settled = state_settles _ _ _ _ _ c.requires.1 c.settle_state.ensures in
    (blocked_reached _ _ c.args.board.now.legal _ (length_unpack _ _) _ settled c.constraint_low.ensures, ready_again _ _ _ _ settled)

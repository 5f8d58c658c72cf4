-- `stored::reach` meets its contract: a pass is made over the cube, and its next state is stored without the held latches. Assumes nothing.
use Rattle.three.proofs.Pack.{length_unpack}
use Rattle.cubes.proofs.StoredCube.{few_bytes}
use Rattle.stored.proofs.Reaching.{state_settles, ready_again, reach_stored}
use borrow.Author.Rules.{rules}
use Rattle.stored.proofs.reach.Goals as goal

pub store_kept-requires : goal.store_kept-requires
store_kept-requires c =
    search (rules, few_bytes c.args.board.now.legal.bounded.latches)

pub returns : goal.returns
returns c =
    let settled = state_settles _ _ _ _ _ c.requires.2 c.settle_state.ensures in
    (ready_again _ _ _ _ settled, reach_stored _ _ c.args.board.now.legal _ (length_unpack _ _) _ settled _ _ _ _ _ c.cube_bytes.ensures c.store.ensures c.store_kept.ensures)

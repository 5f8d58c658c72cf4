-- `stored::settle_cube` meets its contract: the pass reads the latches of the cube as a record. Assumes nothing.
use Rattle.cubes.proofs.StoredCube.{cube_record, latch_bytes, few_bytes}
use Rattle.stored.proofs.Reaching.{latches_record, cube_settles}
use native.Mathlib.Omega.{arith}
use Rattle.stored.proofs.settle_cube.Goals as goal

pub store_latches-requires : goal.store_latches-requires
store_latches-requires c =
    let few = c.args.board.now.legal.bounded.latches in
    (few, c.requires.0, cube_record _ _ c.requires.1, omega (arith, few_bytes few, latch_bytes c.args.board.now.counts.latches))

pub settle_state-requires : goal.settle_state-requires
settle_state-requires c =
    let b = c.args.board.now in
    latches_record b.counts b.table.now _ _ _ c.store_latches.ensures (omega (arith, few_bytes b.legal.bounded.latches, latch_bytes b.counts.latches))

pub returns : goal.returns
returns c = cube_settles _ _ _ _ _ c.store_latches.ensures _ _ c.requires.2 c.settle_state.ensures

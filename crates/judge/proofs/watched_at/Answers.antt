-- `judge::watched_at` meets its contract: a pass is made over the cube, and its lamps and bad states are stored. Assumes nothing.
use Rattle.three.proofs.Filling.{over_fields}
use Rattle.cubes.proofs.StoredCube.{cube_of_sized}
use Rattle.stored.proofs.Reaching.{watched_reached}
use Rattle.judge.proofs.watched_at.Goals as goal

pub returns : goal.returns
returns c =
    let settled = c.settle_cube.ensures in
    (settled, over_fields _ (rw (c.literals_at-first.ensures, c.verdicts.ensures) at c.store.ensures) (watched_reached _ _ c.args.board.now.legal _ (cube_of_sized _ _) _ settled))

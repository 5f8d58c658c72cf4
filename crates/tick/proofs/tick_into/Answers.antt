-- `tick::tick_into` meets its contract: one pass is made, and its values are stored twice. Assumes nothing.
use Rattle.three.proofs.Filling.{over_fields}
use Rattle.three.proofs.Pack.{length_unpack}
use Rattle.tick.specs.Tick.{next_fields, lamp_fields}
use Rattle.pass.proofs.Settling.{next_stored, lamps_stored}
use Rattle.tick.proofs.tick_into.Goals as goal

pub returns : goal.returns
unfolding next_fields lamp_fields
returns c =
    let legal = c.args.board.now.legal in
    let values = c.settle.ensures in (
      over_fields _ c.store.ensures (next_stored _ _ legal _ _ (length_unpack _ _) (length_unpack _ _) _ values),
      over_fields _ (rw c.literals_at-first.ensures at c.store-2.ensures) (lamps_stored _ _ legal _ _ (length_unpack _ _) (length_unpack _ _) _ values),
    )

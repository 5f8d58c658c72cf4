-- `chain::advance` meets its contract: the held latches first, then the last cube, and then its record. Assumes nothing.
use mathlib.Core.Path.{refl, ◌∙◌}
use Prim.Native.Nat.{◌*◌}
use Rattle.chain.proofs.Keeping.{due_held, stored_marked}
use Rattle.chain.proofs.Progress.advance.Goals as goal

pub returns : goal.returns
returns c =
    record {
      counts = refl;
      holds = c.held_after.ensures ∙ due_held _ _ _ _ c.due-d.ensures;
      keeps = c.store_kept.ensures;
      stores = stored_marked c.args.cubes.now _ (c.args.self.count * c.args.len) c.args.len _ c.store_cube.ensures c.mark.ensures c.due-d.ensures;
    }

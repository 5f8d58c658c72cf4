-- `stored::subsumes` meets its contract: the latches are marked, and compared. Assumes nothing.
use mathlib.Core.Path.{◌∙◌}
use Rattle.stored.proofs.Raising.{length_raised, covers_front}
use native.Mathlib.Omega.{arith}
use Rattle.stored.proofs.subsumes.Goals as goal

pub returns : goal.returns
returns c =
    c.covers.ensures ∙ covers_front _ _ _ _ _ c.marked-b.ensures (omega (arith, length_raised c.args.len 3 c.args.latches.now)) _

-- `stored::find` meets its contract: the latches are marked, and searched for. Assumes nothing.
use Rattle.stored.proofs.Raising.{length_raised, found_front}
use native.Mathlib.Omega.{arith}
use Rattle.stored.proofs.find.Goals as goal

pub returns : goal.returns
returns c =
    found_front _ _ _ _ _ c.marked-b.ensures (omega (arith, length_raised c.args.len 3 c.args.latches.now)) _ _ c.search.ensures

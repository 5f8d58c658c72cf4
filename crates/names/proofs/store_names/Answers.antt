-- `names::store_names` meets its contract: the first are copied. Assumes nothing.
use native.Mathlib.Omega.{arith}
use Rattle.names.proofs.Tabling.{copied_over}
use Rattle.names.proofs.store_names.Goals as goal

pub returns : goal.returns
returns c = let pre = c.requires in copied_over _ _ _ _ (omega arith) c.copy_from_slice.ensures.after

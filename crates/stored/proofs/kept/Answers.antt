-- `stored::kept` meets its contract: it is the definition. Assumes nothing.
use mathlib.Core.Path.{refl}
use Rattle.cubes.specs.HeldInCode.{kept_byte}
use Rattle.stored.proofs.kept.Goals as goal

pub returns : goal.returns
unfolding kept_byte
returns c = refl

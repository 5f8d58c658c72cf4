-- `chain::differing` meets its contract: it is the definition, and three times at most 85. Assumes nothing.
use mathlib.Core.Path.{refl}
use Rattle.cubes.specs.HeldInCode.{differing_byte}
use Rattle.chain.proofs.differing.Goals as goal

pub returns : goal.returns
unfolding differing_byte
returns c = refl

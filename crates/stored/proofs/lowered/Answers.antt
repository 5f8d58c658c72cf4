-- `stored::lowered` meets its contract: it is the definition. Assumes nothing.
use mathlib.Core.Path.{refl}
use Rattle.cubes.specs.BufferInCode.{lowered_byte}
use Rattle.stored.proofs.lowered.Goals as goal

pub returns : goal.returns
unfolding lowered_byte
returns c = refl

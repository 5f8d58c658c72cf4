-- `stored::raised` meets its contract: it is the definition. Assumes nothing.
use mathlib.Core.Path.{refl}
use Rattle.cubes.specs.BufferInCode.{raised_byte}
use Rattle.stored.proofs.raised.Goals as goal

pub returns : goal.returns
unfolding raised_byte
returns c = refl

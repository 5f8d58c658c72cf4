-- `names::renamed` meets its contract. Assumes nothing.
use mathlib.Core.Path.{refl}
use Prim.Native.Nat.{◌/◌}
use native.Mathlib.Omega.{arith}
use Rattle.names.specs.Naming.{renamed_by}
use Rattle.names.proofs.renamed.Goals as goal

pub overflow_mul-result : goal.overflow_mul-result
overflow_mul-result c = omega (arith, c.requires.1.small (c.args.x / 2))

pub overflow_add-result : goal.overflow_add-result
overflow_add-result c = omega (arith, c.requires.1.small (c.args.x / 2))

pub returns : goal.returns
unfolding renamed_by
returns c = refl

use Rattle.three.proofs.Loops.{stored_first}
use Rattle.three.proofs.Filling.{fill_next, fill_last}
use native.Mathlib.Omega.{arith}
use Rattle.three.proofs.store_fields.Goals as goal

pub loop-k-init : goal.loop-k-init
loop-k-init g c = λ fields v. stored_first _ _ _ _

pub loop-k-preserved : goal.loop-k-preserved
loop-k-preserved g c = λ fields v. fill_next _ _ v.sized _ _ _ _ c.requires.2 (c.loop-k.invariant fields v) (omega arith) (c.given_byte.ensures fields v)

pub returns : goal.returns
returns g c = λ fields v. fill_last _ _ v.sized _ _ _ (c.loop-k.invariant fields v) (omega arith)

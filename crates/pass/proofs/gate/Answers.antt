-- `pass::gate` meets its contract: the gate table is looked up at the operands' values. Assumes nothing.
use mathlib.Core.Path.{ap₂, ◌∙◌}
use Rattle.three.specs.Value.{code, both}
use Rattle.three.proofs.Filling.{is_small, is_decoded}
use Rattle.pass.proofs.gate.Goals as goal

pub and3-requires : goal.and3-requires
and3-requires c = (is_small _ c.literal.ensures, is_small _ c.literal-2.ensures)

pub returns : goal.returns
returns c = c.and3.ensures ∙ ap₂ (λ x y. code (both x y)) (is_decoded _ c.literal.ensures) (is_decoded _ c.literal-2.ensures)

-- `chain::held_after` meets its contract: it goes by whether b is due. Assumes nothing.
use mathlib.Core.Path.{◌∙◌}
use Rattle.chain.proofs.Keeping.{held_same, held_wider}
use Rattle.chain.proofs.held_after.Goals as goal

pub returns-then-d : goal.returns-then-d
returns-then-d c = c.widen.ensures ∙ held_wider _ _ _ _ c.if-d.true

pub returns-else-d : goal.returns-else-d
returns-else-d c = held_same _ _ _ _ c.if-d.false

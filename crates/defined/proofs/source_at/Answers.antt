-- `defined::source_at` meets its contract. Assumes nothing.
use Rattle.defined.proofs.Knowing.{source_leaf, source_some}
use Rattle.defined.proofs.source_at.Goals as goal

pub returns-then-p-leaves : goal.returns-then-p-leaves
returns-then-p-leaves c = λ d few e. source_leaf d _ e _ _ few c.if-p-leaves.true

pub returns : goal.returns
returns c = λ d few e. source_some d _ e _ _ few c.if-p-leaves.false

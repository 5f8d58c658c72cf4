-- `chain::due` meets its contract: the two cases of the definition. Assumes nothing.
use Rattle.chain.proofs.Keeping.{never_due, due_divides}
use Rattle.chain.proofs.due.Goals as goal

pub returns-then-w-eq0 : goal.returns-then-w-eq0
returns-then-w-eq0 c = never_due _ _ c.if-w-eq0.true

pub returns : goal.returns
returns c = due_divides _ _ c.if-w-eq0.false

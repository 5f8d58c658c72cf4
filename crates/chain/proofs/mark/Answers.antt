-- `chain::mark` meets its contract: the two cases. Assumes nothing.
use Rattle.chain.proofs.Keeping.{mark_due, mark_plain}
use Rattle.chain.proofs.mark.Goals as goal

pub returns-then-d : goal.returns-then-d
returns-then-d c = mark_due c.if-d.true

pub returns : goal.returns
returns c = mark_plain c.if-d.false

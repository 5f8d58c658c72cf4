-- `chain::goes_to` meets its contract: the constraints are read first, and the search decides where none is 0. Assumes nothing.
use Rattle.chain.proofs.Stopping.{gone_ended, gone_found}
use Rattle.chain.proofs.goes_to.Goals as goal

pub returns-then-blocked : goal.returns-then-blocked
returns-then-blocked c = (gone_ended _ _ c.blocked.ensures.0 c.if-blocked.true, c.blocked.ensures.1)

pub returns : goal.returns
returns c = let read = c.blocked.ensures in (gone_found _ _ read.0 c.if-blocked.false _ c.find.ensures, read.1)

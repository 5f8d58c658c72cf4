-- `reported::put_opening` meets its contract: the line of an end or of a closure. Assumes nothing.
use Rattle.reported.proofs.Reporting.{opening_ended, opening_closed}
use Rattle.reported.proofs.put_opening.Goals as goal

pub returns-then-j-n : goal.returns-then-j-n
returns-then-j-n c = opening_ended _ _ _ c.if-j-n.true c.put_ending.ensures

pub returns : goal.returns
returns c = opening_closed _ _ _ c.if-j-n.false c.put_closing.ensures

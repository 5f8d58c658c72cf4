-- The plain form's `line` meets its contract: a line of the body, whatever its kind. Assumes nothing.
use Rattle.reader.proofs.Bodies.{plain_shown}
use Rattle.reader.proofs.EndingForm.line.Goals as goal

pub returns : goal.returns
returns c = plain_shown _ _ _ _ _ c.line.ensures

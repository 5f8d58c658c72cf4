-- `why::marked_field` meets its contract: its two cases are the definition's. Assumes nothing.
use Rattle.why.proofs.Keeping.{field_blank, field_kept}
use Rattle.why.proofs.marked_field.Goals as goal

pub returns-then-not-marks-first : goal.returns-then-not-marks-first
returns-then-not-marks-first c = field_blank _ _ _ _ c.if-not-marks-first.true

pub returns : goal.returns
returns c = field_kept _ _ _ _ c.requires.1 c.if-not-marks-first.false c.field.ensures

-- `reader::ended` meets its contract: its tests are those of `ends`. Assumes nothing.
use mathlib.Core.Path.{◌∙◌}
use native.Mathlib.Omega.{arith}
use Rattle.reader.proofs.Bodies.{ended_last, ended_other, ended_comment}
use Rattle.reader.proofs.ended.Goals as goal

pub returns-then-at-text : goal.returns-then-at-text
returns-then-at-text c = ended_last _ _ _ c.if-at-text.true

pub returns-then-text-at-ne99 : goal.returns-then-text-at-ne99
returns-then-text-at-ne99 c = ended_other _ _ _ (omega arith) c.if-text-at-ne99.true

pub returns : goal.returns
returns c = c.is_some.ensures ∙ ended_comment _ _ _ (omega arith) _ c.if-text-at-ne99.false c.ending_at.ensures

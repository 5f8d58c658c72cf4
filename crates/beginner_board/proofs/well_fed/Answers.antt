-- `beginner_board::well_fed` meets its contract: its tests are those of the definition, in its order. Assumes nothing.
use Rattle.beginners.proofs.Rules.{constant_left, constant_right, variables_apart}
use Rattle.beginner_board.proofs.well_fed.Goals as goal

pub returns-then-left-lt2 : goal.returns-then-left-lt2
returns-then-left-lt2 c = constant_left _ c.if-left-lt2.true

pub returns-then-right-lt2 : goal.returns-then-right-lt2
returns-then-right-lt2 c = constant_right c.if-left-lt2.false c.if-right-lt2.true

pub returns : goal.returns
returns c = variables_apart c.if-left-lt2.false c.if-right-lt2.false

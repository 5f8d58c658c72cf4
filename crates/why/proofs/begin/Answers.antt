-- `why::begin` meets its contract: its two tests are made in turn. Assumes nothing.
use mathlib.Core.Path.{refl}
use Rattle.why.specs.MarksInCode.{marked}
use Rattle.why.proofs.begin.Goals as goal

pub returns-then-not-old : goal.returns-then-not-old
unfolding marked
returns-then-not-old c = record { answers = rw c.if-not-old.true; sets = refl }

pub returns-else-not-old : goal.returns-else-not-old
unfolding marked
returns-else-not-old c = record { answers = rw c.if-not-old.false; sets = refl }

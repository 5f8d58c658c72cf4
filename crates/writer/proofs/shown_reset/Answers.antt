-- `writer::shown_reset` meets its contract. Assumes nothing.
use native.Mathlib.Omega.{arith}
use Rattle.writer.proofs.WrittenLine.{shown_one, shown_own_lem}
use Rattle.writer.proofs.shown_reset.Goals as goal

pub returns-then-reset-eq1 : goal.returns-then-reset-eq1
returns-then-reset-eq1 c = (omega arith, shown_one _ _ c.if-reset-eq1.true)

pub returns : goal.returns
returns c = (omega arith, shown_own_lem _ _ (omega arith))

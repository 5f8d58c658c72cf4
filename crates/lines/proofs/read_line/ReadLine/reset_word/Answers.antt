-- `lines::ReadLine::reset_word` meets its contract: the third number is 0 or 1, the own literal, or neither. Assumes nothing.
use mathlib.Core.Path.{sym, ◌∙◌}
use native.Mathlib.Omega.{arith}
use Rattle.text.proofs.Spelling.{reset_known, reset_own, reset_other}
use Rattle.lines.proofs.read_line.ReadLine.reset_word.Goals as goal

pub returns-then-reset-le1 : goal.returns-then-reset-le1
returns-then-reset-le1 c = let e = c.entry-reset.ensures in e ∙ sym (reset_known _ _ (omega arith))

pub returns-then-reset-entry : goal.returns-then-reset-entry
returns-then-reset-entry c = sym (reset_own _ _ (omega arith) (omega arith))

pub returns : goal.returns
returns c = sym (reset_other _ _ (omega arith) (λ e. omega arith))

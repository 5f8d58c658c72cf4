-- `judged::onward` meets its contract: the following number while there is one, and then j while it is one. Assumes nothing.
use mathlib.Core.Path.{sym, ◌∙◌}
use native.Mathlib.Numerals.{add-one}
use native.Mathlib.Omega.{arith}
use Rattle.cubes.proofs.Places.{onward_inner, onward_last}
use Rattle.judged.proofs.onward.Goals as goal

pub returns-then-k-n : goal.returns-then-k-n
returns-then-k-n c = (add-one _ ∙ sym (onward_inner _ _ _ (omega arith)), omega arith)

pub returns-then-j-n : goal.returns-then-j-n
returns-then-j-n c = (sym (onward_last _ _ _ (omega arith)), omega arith)

pub returns : goal.returns
returns c = rw (onward_last c.args.n c.args.j c.args.k (omega arith)) (omega arith)

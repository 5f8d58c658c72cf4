use native.Mathlib.Omega.{arith}
use Rattle.defined.proofs.Entering.{entered_last}
use Rattle.defined.proofs.enter_lines.Goals as goal

pub returns : goal.returns
returns c = entered_last _ _ _ c.loop-k.invariant (omega arith)

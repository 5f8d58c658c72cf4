-- `stored::start_field` meets its contract: the three cases of the definition. Assumes nothing.
use native.Mathlib.Omega.{arith}
use Rattle.stored.proofs.Starting.{reset_low, reset_high, reset_free}
use Rattle.stored.proofs.start_field.Goals as goal

pub returns-in-0 : goal.returns-in-0
returns-in-0 c = reset_low c.in-0.is

pub returns-in-1 : goal.returns-in-1
returns-in-1 c = reset_high c.in-1.is

pub returns-in_default : goal.returns-in_default
returns-in_default c = reset_free _ (λ z. omega arith) (λ z. omega arith)

-- `why::Gates::low_operand` meets its contract: the first operand is tried, and the second is left. Assumes nothing.
use Rattle.why.proofs.Asking.{first_taken, second_taken}
use Rattle.why.proofs.Gates.low_operand.Goals as goal

pub returns-then-is_low : goal.returns-then-is_low
returns-then-is_low c = let pre = c.requires in first_taken _ _ _ _ _ pre.1 pre.0 pre.2 c.operands-left.ensures.0 c.is_low.ensures c.if-is_low.true

pub returns : goal.returns
returns c = let pre = c.requires in second_taken _ _ _ _ _ pre.1 pre.0 pre.2 c.operands-left.ensures.0 c.is_low.ensures c.if-is_low.false c.operands-left.ensures.1

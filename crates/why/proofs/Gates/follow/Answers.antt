-- `why::Gates::follow` meets its contract: a known value is 0 or 1, and each has its function. Assumes nothing.
use Rattle.why.proofs.Asking.{asked_low, asked_high}
use Rattle.why.proofs.Gates.follow.Goals as goal

pub why_zero-requires : goal.why_zero-requires
why_zero-requires c = let pre = c.requires in (asked_low _ _ _ _ _ pre.1 c.is_low.ensures c.if-is_low.true, pre.2)

pub why_one-requires : goal.why_one-requires
why_one-requires c = let pre = c.requires in (asked_high _ _ _ _ _ pre.1 c.is_low.ensures c.if-is_low.false pre.0, pre.2)

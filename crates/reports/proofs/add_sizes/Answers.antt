use native.Mathlib.Omega.{arith}
use Rattle.reports.proofs.Sizes.{added_first, added_ill, added_next, added_last}
use Rattle.reports.proofs.add_sizes.Goals as goal

pub loop-k-init : goal.loop-k-init
loop-k-init c = added_first _ _ _ (omega arith)

pub size_at-requires : goal.size_at-requires
size_at-requires c = c.loop-k.invariant.within

pub returns-in_err-size : goal.returns-in_err-size
returns-in_err-size c =
    rw c.from_residual.ensures (added_ill _ _ _ c.loop-k.invariant c.loop-k-test.true c.size_at.ensures c.in_err-size.was)

pub overflow_add-value : goal.overflow_add-value
overflow_add-value c =
    omega (arith, (added_next _ _ _ c.loop-k.invariant c.loop-k-test.true c.size_at.ensures c.in_ok-size.was).few)

pub loop-k-preserved : goal.loop-k-preserved
loop-k-preserved c =
    added_next _ _ _ c.loop-k.invariant c.loop-k-test.true c.size_at.ensures c.in_ok-size.was

pub returns : goal.returns
returns c = added_last _ _ _ c.loop-k.invariant c.loop-k-test.false

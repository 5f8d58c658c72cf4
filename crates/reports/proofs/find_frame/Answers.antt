-- `reports::find_frame` meets its contract: how many texts there are, and sizes that add up to them. Assumes nothing.
use native.Mathlib.Omega.{arith}
use Rattle.reports.proofs.Sizes.{size_bounds}
use Rattle.reports.proofs.Framing.{no_count, no_sizes, sum_within, not_added, whole_frame}
use Rattle.reports.proofs.find_frame.Goals as goal

pub returns-in_err-count : goal.returns-in_err-count
returns-in_err-count c = rw c.from_residual.ensures (no_count _ c.size_at.ensures c.in_err-count.was)

pub add_sizes-requires : goal.add_sizes-requires
add_sizes-requires c = size_bounds c.size_at.ensures c.in_ok-count.was

pub returns-in_err-sizes : goal.returns-in_err-sizes
returns-in_err-sizes c =
    rw c.from_residual-in_err-sizes.ensures (no_sizes _ c.size_at.ensures c.in_ok-count.was c.add_sizes.ensures c.in_err-sizes.was)

pub overflow_sub-stream : goal.overflow_sub-stream
overflow_sub-stream c = omega (arith, sum_within c.add_sizes.ensures c.in_ok-sizes.was)

pub returns-then-sizes-stream : goal.returns-then-sizes-stream
returns-then-sizes-stream c =
    not_added _ c.size_at.ensures c.in_ok-count.was c.add_sizes.ensures c.in_ok-sizes.was c.if-sizes-stream.true

pub returns : goal.returns
returns c =
    whole_frame _ c.size_at.ensures c.in_ok-count.was c.add_sizes.ensures c.in_ok-sizes.was c.if-sizes-stream.false

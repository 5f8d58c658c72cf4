-- `judge::settle_latches` meets its contract: the marks are left off the merge. Assumes nothing.
use Rattle.three.proofs.Filling.{over_fields}
use Rattle.cubes.proofs.StoredCube.{few_bytes}
use Rattle.judge.proofs.Latches.{common_record, common_settled}
use native.Mathlib.Omega.{arith}
use Rattle.judge.proofs.settle_latches.Goals as goal

pub merge_cubes-requires : goal.merge_cubes-requires
merge_cubes-requires c = let pre = c.requires in (pre.0, few_bytes pre.0.few)

pub store_latches-requires : goal.store_latches-requires
store_latches-requires c =
    let pre = c.requires in
    (pre.0.few, omega arith, common_record _ _ _ _ _ c.merge_cubes.ensures (few_bytes pre.0.few), pre.1)

pub returns : goal.returns
returns c = over_fields _ c.store_latches.ensures (common_settled _ _ _ _ _ c.merge_cubes.ensures)

use Rattle.cubes.proofs.Merging.{merged_record}
use Rattle.judge.proofs.Latches.{cube_record, settled_first, settled_next, settled_last}
use native.Mathlib.Numerals.{add-one}
use native.Mathlib.Omega.{arith}
use Rattle.judge.proofs.merge_cubes.Goals as goal

pub loop-k-init : goal.loop-k-init
loop-k-init c =
    let pre = c.requires in
    (settled_first _ _ _ _ _ pre.0 _ pre.1 (λ i. (c.type_inv.cubes i).fits) c.copy_from_slice.ensures.after, omega arith)

pub agree-requires : goal.agree-requires
agree-requires c =
    let pre = c.requires in
    (rw add-one (merged_record _ _ _ _ _ c.loop-k.invariant.0), rw add-one (cube_record _ _ _ _ _ pre.0 _ c.loop-k-test.true))

pub loop-k-preserved : goal.loop-k-preserved
loop-k-preserved c =
    let pre = c.requires in
    (settled_next _ _ _ _ _ pre.0 c.loop-k.invariant.0 (rw add-one at c.agree.ensures), omega (arith, c.loop-k-test.true))

pub returns : goal.returns
returns c =
    let pre = c.requires in
    settled_last _ _ _ _ _ pre.0 _ pre.1 (λ i. (c.type_inv.cubes i).fits) c.copy_from_slice.ensures.after c.loop-k.invariant.0 (omega arith)

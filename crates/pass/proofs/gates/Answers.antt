use Rattle.three.proofs.Filling.{is_small, is_decoded}
use Rattle.pass.proofs.Passing.{turn_first, turn_next, turn_last, room}
use native.Mathlib.Omega.{arith}
use Rattle.pass.proofs.gates.Goals as goal

pub loop-i-init : goal.loop-i-init
loop-i-init c = turn_first _ _ _ _ _

pub gate-v-requires : goal.gate-v-requires
gate-v-requires c =
    let t = c.loop-i-test.true in
    (omega (arith, c.requires.left _ t), omega (arith, c.requires.right _ t))

pub put-requires : goal.put-requires
put-requires c = (omega (arith, c.requires.room), is_small _ c.gate-v.ensures)

pub loop-i-preserved : goal.loop-i-preserved
loop-i-preserved c =
    let fits = room _ _ _ _ _ c.requires c.args.values.now.working in
    rw c.put.ensures.same (turn_next _ _ _ _ _ c.requires fits _ _ _ c.loop-i.invariant c.loop-i-test.true (is_decoded _ c.gate-v.ensures))

pub returns : goal.returns
returns c =
    let fits = room _ _ _ _ _ c.requires c.args.values.now.working in
    record { working = c.loop-i.values.working; same = turn_last _ _ _ _ _ c.requires fits _ _ c.loop-i.invariant c.loop-i-test.false }

use mathlib.Core.Path.{◌≡◌}
use Prim.Native.Nat.{◌*◌}
use Rattle.pass.specs.ValuesInCode.{Holding}
use Rattle.pass.proofs.Passing.{room, passed_none, gateable_part, holding_part}
use native.Mathlib.Omega.{arith}
use Rattle.pass.proofs.gate_bytes.Goals as goal

pub loop-k-init : goal.loop-k-init
loop-k-init c = (passed_none _ _ _ _, omega arith)

pub gates-requires : goal.gates-requires
gates-requires c = gateable_part _ _ _ (4 * c.loop-k.k) 4 _ _ (omega arith) (omega arith) _ (omega arith) c.requires

pub loop-k-preserved : goal.loop-k-preserved
loop-k-preserved c =
    let fits = room _ _ _ _ _ c.requires c.args.values.now.working in
    let before : Holding c.loop-k.values.bytes _ = record { working = c.loop-k.values.working; same = c.loop-k.invariant.0 } in
    let after = holding_part _ _ _ (4 * c.loop-k.k) 4 _ _ (omega arith) (omega arith) _ _ _ _ (omega (arith, fits)) (omega arith) before c.gates.ensures in
    (after.same, omega arith)

pub returns : goal.returns
returns c =
    let done : c.loop-k.k ≡ c.args.count = omega arith in
    record { working = c.loop-k.values.working; same = rw (← done) c.loop-k.invariant.0 }

-- `pass::all_gates` meets its contract: the gates are taken in three parts. Assumes nothing.
use Prim.Native.Nat.{ℕ, ◌+◌, ◌*◌, ◌-◌, ◌/◌, ◌%◌}
use Rattle.pass.proofs.Passing.{room, gateable_part, holding_part}
use native.Mathlib.Omega.{arith}
use Rattle.pass.proofs.all_gates.Goals as goal

-- how many gates are before a byte begins, and how many with those of whole bytes
abbrev front : ℕ → ℕ
front first = 3 - (first + 3) % 4

abbrev done : ℕ → ℕ → ℕ
done first count = front first + 4 * ((count - front first) / 4)

pub gates-requires-2 : goal.gates-requires-2
gates-requires-2 c = gateable_part _ _ _ 0 _ _ _ (omega arith) (omega arith) _ (omega arith) c.requires

pub gate_bytes-requires : goal.gate_bytes-requires
gate_bytes-requires c =
    gateable_part _ _ _ (front c.args.first) _ _ _ (omega arith) (omega arith) _ (omega arith) c.requires

pub gates-requires-3 : goal.gates-requires-3
gates-requires-3 c =
    gateable_part _ _ _ (done c.args.first c.args.count) _ _ _ (omega arith) (omega arith) _ (omega arith) c.requires

pub returns : goal.returns
returns c =
    let fits = room _ _ _ _ _ c.requires c.args.values.now.working in
    holding_part _ _ _ (done c.args.first c.args.count) _ _ _ (omega arith) (omega arith) _ _ _ _ (omega (arith, fits)) (omega arith)
    (holding_part _ _ _ (front c.args.first) _ _ _ (omega arith) (omega arith) _ _ _ _ (omega (arith, fits)) (omega arith) c.gates-2.ensures c.gate_bytes.ensures)
    c.gates-3.ensures

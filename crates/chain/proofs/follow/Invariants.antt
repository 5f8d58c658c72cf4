-- `chain::follow` meets its contract: each turn stores a cube more, or closes or ends the run, or finds no room. Assumes nothing.
use Prim.Native.Nat.{◌-◌}
use Rattle.chain.proofs.Following.{Turn}
use Rattle.chain.proofs.follow.Given as goal

abbrev pub invariant-loop-back : goal.invariant-loop-back
invariant-loop-back l = Turn l.board.counts l.board.table.now l.w l.len l.room l.initial.progress.last l.initial.cubes l.progress.count l.progress.held l.progress.last l.cubes l.values.bytes l.b

abbrev pub decreases-loop-back : goal.decreases-loop-back
decreases-loop-back l = l.room - l.progress.count

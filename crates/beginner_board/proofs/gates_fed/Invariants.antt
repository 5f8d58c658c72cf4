-- `beginner_board::gates_fed` meets its contract: each gate is tried in turn. Assumes nothing.
use Prim.Native.Nat.{◌+◌, ◌*◌}
use lib.ListN.{get_or}
use Rattle.three.proofs.Loops.{Tried}
use Rattle.beginners.specs.Rules.{well_fed}
use Rattle.beginner_board.proofs.gates_fed.Given as goal

abbrev pub invariant-loop-i : goal.invariant-loop-i
invariant-loop-i l = Tried l.count (λ k. well_fed (get_or l.table (l.at + 2 * k) 0) (get_or l.table (l.at + 2 * k + 1) 0)) l.i

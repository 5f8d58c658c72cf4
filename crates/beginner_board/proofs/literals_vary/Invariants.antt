-- `beginner_board::literals_vary` meets its contract: each literal is tried in turn. Assumes nothing.
use Prim.Native.Nat.{◌+◌, ◌*◌}
use lib.ListN.{get_or}
use Rattle.three.proofs.Loops.{Tried}
use Rattle.beginners.specs.Rules.{varies}
use Rattle.beginner_board.proofs.literals_vary.Given as goal

abbrev pub invariant-loop-i : goal.invariant-loop-i
invariant-loop-i l = Tried l.count (λ k. varies (get_or l.table (l.at + l.step * k) 0)) l.i

-- `stored::store_cube` meets its contract: the bytes are stored in turn, each moved up behind the one above it. Assumes nothing.
use Rattle.stored.proofs.Raising.{Raised}
use Rattle.stored.proofs.store_cube.Given as goal

abbrev pub invariant-loop-i : goal.invariant-loop-i
invariant-loop-i l = Raised l.len l.initial.above l.latches l.initial.byte-items l.byte-items l.i l.above

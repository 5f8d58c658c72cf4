-- `reasons::put_latches` meets its contract: latch by latch, what is left makes it the whole. Assumes nothing.
use Rattle.reasons.proofs.Latches.{LatchesLeft}
use Rattle.reasons.proofs.put_latches.Given as goal

abbrev pub invariant-loop-i : goal.invariant-loop-i
invariant-loop-i l = LatchesLeft l.why l.count l.initial.out l.start l.out l.end l.begun l.i

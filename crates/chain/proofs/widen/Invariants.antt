-- `chain::widen` meets its contract: the bytes are widened in turn. Assumes nothing.
use Rattle.three.proofs.Loops.{Stored}
use Rattle.chain.specs.ChainInCode.{widened_bytes}
use Rattle.chain.proofs.widen.Given as goal

abbrev pub invariant-loop-i : goal.invariant-loop-i
invariant-loop-i l = Stored l.initial.byte-items 0 (widened_bytes l.len l.fn.held l.a l.b) l.len l.byte-items l.i

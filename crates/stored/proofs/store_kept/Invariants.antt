-- `stored::store_kept` meets its contract: the bytes are stored in turn. Assumes nothing.
use Rattle.three.proofs.Loops.{Stored}
use Rattle.stored.specs.CubesInCode.{kept_bytes}
use Rattle.stored.proofs.store_kept.Given as goal

abbrev pub invariant-loop-i : goal.invariant-loop-i
invariant-loop-i l = Stored l.initial.byte-items 0 (kept_bytes l.len l.held l.b) l.len l.byte-items l.i

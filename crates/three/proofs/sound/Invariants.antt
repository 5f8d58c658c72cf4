-- `three::sound` meets its contract. The invariant: no byte so far has a pair 11. Assumes nothing.
use Rattle.three.proofs.Loops.{Tried}
use Rattle.three.proofs.Soundness.{good_byte}
use Rattle.three.proofs.sound.Given as goal

abbrev pub invariant-loop-byte : goal.invariant-loop-byte
invariant-loop-byte l = Tried l.len (good_byte l.bytes) l.byte-index

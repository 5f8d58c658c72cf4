-- `three::known_fields` meets its contract. The invariant: the count is that of the fields in the bytes so far. Assumes nothing.
use mathlib.Core.Path.{◌≡◌}
use Prim.Native.Nat.{◌*◌}
use Rattle.three.specs.Cube.{known_fields}
use Rattle.three.specs.Record.{unpack}
use Rattle.three.proofs.known_fields.Given as goal

abbrev pub invariant-loop-byte : goal.invariant-loop-byte
invariant-loop-byte l = l.count ≡ known_fields (unpack (4 * l.byte-index) l.bytes)

-- `three::agree` meets its contract. The invariant: the first k bytes are those of the merged record. Assumes nothing.
use mathlib.Core.List.{List}
use Prim.Native.Nat.{ℕ}
use Rattle.three.specs.Cube.{merged}
use Rattle.three.specs.Record.{bytes_for, pack, unpack}
use Rattle.three.proofs.Loops.{Stored}
use Rattle.three.proofs.agree.Given as goal

abbrev pub common : ℕ → List ℕ → List ℕ → List ℕ
common f a b = pack (merged (unpack f a) (unpack f b))

abbrev pub Filled : ℕ → List ℕ → List ℕ → List ℕ → ℕ → Type 0
Filled f a b e k = Stored a 0 (common f a b) (bytes_for f) e k

abbrev pub invariant-loop-k : goal.invariant-loop-k
invariant-loop-k l = Filled l.fields l.initial.bytes l.other l.bytes l.k

-- What the contracts of the two writers leave: the whole text at the front of the buffer, which opens with its four bytes; and in the binary form a reset of 0
-- that is left out, no start value as the own literal, and the larger operand first. Assumes nothing.
use mathlib.Core.Path.{◌≡◌, refl, ◌∙◌}
use mathlib.Core.List.{List, [], ◌∷◌, ◌++◌}
use Prim.Native.Nat.{ℕ}
use lib.ListN.{length, take, drop}
use lib.Seq.{take-append_seam}
use Rattle.three.specs.Lists.{over}
use Rattle.circuit.specs.declared.Counts.{Counts}
use Rattle.circuit.specs.Refusal.{left_by}
use Rattle.circuit.specs.Table.{plain_counts}
use Rattle.text.specs.Text.{magic, write_opened}
use Rattle.text.specs.Calls.{WrittenBy, Writing}
use Rattle.text.specs.Bench.{bytes}
use Rattle.binary.specs.Binary.{binary_magic}
use Rattle.binary.specs.Calls.{BinaryWriting}
use Rattle.binary.specs.Examples.{written, resets_shown}

module _ {c : Counts} {table : List ℕ} {buffer : List ℕ} {n : ℕ} {buffer' : List ℕ} where
  pub written_front : {text : List ℕ} → WrittenBy c table text buffer 0 n buffer' → take n buffer' ≡ text
  unfolding left_by over
  written_front {text} w = rw (w.returns, w.fills) (take-append_seam text (drop (length text) buffer))

  pub text_opens : Writing c table buffer 0 n buffer' → take 4 buffer' ≡ magic
  unfolding left_by over write_opened
  text_opens w = rw w.fills refl

  pub binary_opens : BinaryWriting c table buffer 0 n buffer' → take 4 buffer' ≡ binary_magic
  unfolding left_by over write_opened
  binary_opens w = rw w.fills refl

module _ {buffer : List ℕ} {n : ℕ} {buffer' : List ℕ} where
  pub resets_written : BinaryWriting (plain_counts 1 3 0 0) (3 ∷ 0 ∷ 3 ∷ 1 ∷ 3 ∷ 2 ∷ []) buffer 0 n buffer' → take n buffer' ≡ bytes "aig 4 1 3 0 0/3/3 1/3 8/"
  unfolding written
  resets_written w = written_front w ∙ resets_shown

  -- S with its gate's operands in the other order
  pub larger_first_written : BinaryWriting (plain_counts 0 2 1 1) (4 ∷ 0 ∷ 2 ∷ 1 ∷ 6 ∷ 2 ∷ 4 ∷ []) buffer 0 n buffer' → take n buffer' ≡ bytes "aig 3 0 2 1 1/4/2 1/6/" ++ (2 ∷ 2 ∷ [])
  unfolding written bytes
  larger_first_written w = written_front w

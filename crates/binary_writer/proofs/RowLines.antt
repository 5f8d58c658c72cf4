-- Laws of the row of a kind in the binary form. Assumes nothing.
use mathlib.Core.Path.{◌≡◌, refl, ◌∙◌, ap}
use native.Mathlib.Omega.{arith}
use mathlib.Core.List.{List, [], ◌∷◌}
use Prim.Native.Nat.{ℕ, ◌+◌, ◌≤◌, ◌<◌}
use lib.ListN.{get_or}
use Rattle.text.specs.declared.LineKind.{LineKind}
use Rattle.text.specs.declared.LineKind.TheVariants.{Input, Latch, Lamp, Gate}
use Rattle.text.specs.KindsInCode.{coded}
use Rattle.text.specs.Line.{line_text}
use Rattle.text.specs.Text.{shown}
use Rattle.writer.specs.declared.LineNumbers.{LineNumbers}
use Rattle.writer.specs.declared.LineNumbers.TheVariants.{One, Two}
use Rattle.writer.proofs.WrittenLine.{word_first, word_second}
use Rattle.binary.specs.Binary.{row_bytes}
use Rattle.binary_writer.specs.declared.GateDifferences.{GateDifferences}
use Rattle.binary_writer.specs.declared.Row.TheVariants.{Nothing, Line, Differences}
use Rattle.binary_writer.specs.BinaryWriterInCode.{Differ, LatchRow, Rows}
use Rattle.binary_writer.proofs.PuttingGates.{bytes_gate, small_gate}

pub latch_plain_lem : {own next reset : ℕ} → next < 10000 → reset ≡ 0 → LatchRow own next reset (One next)
unfolding shown
latch_plain_lem n e = record { same = rw e; small = n }

pub latch_given : {own next reset second : ℕ} → next < 10000 → second < 10000 → shown own reset ≡ second ∷ [] → LatchRow own next reset (Two next second)
latch_given n s e = record { same = rw e; small = (n, s) }

-- a number from 1 to 2 that is not 2 is 1
pub is_latch : (k : ℕ) → 1 ≤ k → k ≤ 2 → (k ≡ 2 → ⊥) → k ≡ 1
is_latch k l h f = omega arith

-- the row of a kind whose words stand at word `at`
module _ {k : LineKind} (own : ℕ) (words : List ℕ) (at : ℕ) where
  pub row_input : k ≡ Input → Rows k own words at Nothing
  unfolding row_bytes coded
  row_input e = rw e (record { same = refl; small = tt })

  pub row_lamp : k ≡ Lamp → get_or words at 0 < 10000 → Rows k own words at (Line (One (get_or words at 0)))
  unfolding row_bytes coded
  row_lamp e h = rw e (record { same = rw (word_first own words at); small = h })

  pub row_latch : {line : LineNumbers} → k ≡ Latch → LatchRow own (get_or words at 0) (get_or words (at + 1) 0) line → Rows k own words at (Line line)
  unfolding row_bytes coded
  row_latch e l = rw e (record { same = ap line_text (l.same ∙ rw (word_first own words at, word_second own words at)); small = l.small })

  pub row_gate : {d : GateDifferences} → k ≡ Gate → own < 10000 → (get_or words at 0 < own) × (get_or words (at + 1) 0 < own)
      → Differ own (get_or words at 0) (get_or words (at + 1) 0) d → Rows k own words at (Differences d)
  unfolding row_bytes coded
  row_gate e o below d = rw e (record {
    same = rw (word_first own words at, word_second own words at) (bytes_gate _ _ _ d);
    small = small_gate _ _ _ d below.0 below.1 (omega arith);
  })

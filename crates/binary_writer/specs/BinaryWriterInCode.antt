-- Differences, lines and rows as the binary writer's code has them; nothing here has to be believed. Assumes nothing.
use Rattle.std.specs.Prelude.{◌≡◌, List, [], ◌∷◌, ◌++◌, ℕ, ◌<◌, drop}
use Rattle.text.specs.declared.LineKind.{LineKind}
use Rattle.text.specs.KindsInCode.{coded}
use Rattle.text.specs.Line.{line_text}
use Rattle.text.specs.Text.{shown}
use Rattle.writer.specs.declared.LineNumbers.{LineNumbers}
use Rattle.writer.specs.WriterInCode.{line_numbers, Small}
use Rattle.binary.specs.Difference.{groups}
use Rattle.binary.specs.Gate.{differences}
use Rattle.binary.specs.Binary.{row_bytes}
use Rattle.binary_writer.specs.declared.GateDifferences.{GateDifferences}
use Rattle.binary_writer.specs.declared.Row.{Row}
use Rattle.binary_writer.specs.declared.Row.TheVariants.{Nothing, Line, Differences}

-- the differences of a gate
pub record Differ (own left right : ℕ) (d : GateDifferences) : Type 0 where
  pub first : d.first ≡ (differences own left right).first
  pub second : d.second ≡ (differences own left right).second

-- differences of at most two groups
pub record SmallGate (d : GateDifferences) : Type 0 where
  pub first : d.first < 16384
  pub second : d.second < 16384

-- both, one behind the other
abbrev pub both_bytes : GateDifferences → List ℕ
both_bytes d = groups d.first ++ groups d.second

-- the line of a latch without its own literal
pub record LatchRow (own next reset : ℕ) (line : LineNumbers) : Type 0 where
  pub same : line_numbers line ≡ next ∷ shown own reset
  pub small : Small line

-- the bytes of a row, as the code hands it on
abbrev pub bytes_of : Row → List ℕ
bytes_of Nothing = []
bytes_of (Line l) = line_text (line_numbers l)
bytes_of (Differences d) = both_bytes d

-- its numbers have at most four digits, or at most two groups
abbrev pub SmallRow : Row → Type 0
SmallRow Nothing = Unit {0}
SmallRow (Line l) = Small l
SmallRow (Differences d) = SmallGate d

-- the row of a kind whose words stand at word `at`
pub record Rows (kind : LineKind) (own : ℕ) (words : List ℕ) (at : ℕ) (r : Row) : Type 0 where
  pub same : bytes_of r ≡ row_bytes (coded kind own) (drop at words)
  pub small : SmallRow r

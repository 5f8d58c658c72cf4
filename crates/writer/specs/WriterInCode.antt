-- The numbers of a line and the lines of a text as the writer's code has them; nothing here has to be believed. Assumes nothing.
use Rattle.std.specs.Prelude.{◌≡◌, List, [], ◌∷◌, ℕ, ◌+◌, ◌*◌, ◌≤◌, ◌<◌, length, get_or, drop}
use Rattle.circuit.specs.declared.Counts.{Counts}
use Rattle.circuit.specs.Table.{table_length, literals, literals_at, gates_at, Kind, several, width}
use Rattle.circuit.specs.RulesInCode.{Bounded}
use Rattle.writer.specs.declared.LineNumbers.{LineNumbers}
use Rattle.writer.specs.declared.Rows.{Rows}
use Rattle.writer.specs.declared.LineNumbers.TheVariants.{One, Two, Three}
use Rattle.text.specs.declared.LineKind.{LineKind}
use Rattle.text.specs.declared.LineKind.TheVariants.{Input, Latch, Lamp, Gate}
use Rattle.text.specs.KindsInCode.{coded}
use Rattle.text.specs.Line.{line_text}
use Rattle.text.specs.Text.{further_numbers, shown, write_rows}

-- the numbers of a line, as the code hands them on
abbrev pub line_numbers : LineNumbers → List ℕ
line_numbers (One a) = a ∷ []
line_numbers (Two a b) = a ∷ b ∷ []
line_numbers (Three a b c) = a ∷ b ∷ c ∷ []

-- A, and B and C where they are written
unfoldable pub last_numbers : Counts → List ℕ
last_numbers c = c.gates ∷ further_numbers c.bads c.constraints

-- I L O and those, which follow M
unfoldable pub count_numbers : Counts → List ℕ
count_numbers c = c.inputs ∷ c.latches ∷ c.lamps ∷ last_numbers c

-- a line's numbers, each of at most four digits
abbrev pub Small : LineNumbers → Type 0
Small (One a) = a < 10000
Small (Two a b) = (a < 10000) × (b < 10000)
Small (Three a b c) = (a < 10000) × (b < 10000) × (c < 10000)

-- the last counts, as a line's numbers
pub record LastCounts (c : Counts) (line : LineNumbers) : Type 0 where
  pub text : line_text (line_numbers line) ≡ line_text (last_numbers c)
  pub small : Small line

-- a table's first n words, each of at most four digits
abbrev pub SmallWords : List ℕ → ℕ → Type 0
SmallWords words n = (k : ℕ) → k < n → get_or words k 0 < 10000

-- the line of a latch
pub record LatchLine (own next reset : ℕ) (line : LineNumbers) : Type 0 where
  pub same : line_numbers line ≡ own ∷ next ∷ shown own reset
  pub small : Small line

-- a row of the table: its words are there and have at most four digits, and a gate's operands stand below its own literal
pub record RowThere (kind : LineKind) (own : ℕ) (words : List ℕ) (at : ℕ) : Type 0 where
  pub literal : own < 10000
  pub there : at + width (coded kind own) ≤ length words
  pub small : SmallWords words (at + width (coded kind own))
  pub below : kind ≡ Gate → (get_or words at 0 < own) × (get_or words (at + 1) 0 < own)

-- the line of a kind whose words stand at word `at`
pub record Shows (each : Kind → List ℕ → List ℕ) (kind : LineKind) (own : ℕ) (words : List ℕ) (at : ℕ) (line : LineNumbers) : Type 0 where
  pub row : line_text (line_numbers line) ≡ each (coded kind own) (drop at words)
  pub small : Small line

-- the rows of a kind, by the counts
abbrev pub rows_of : Counts → LineKind → Rows
rows_of c Input = record { kind = Input; own = 2; count = c.inputs; at = 0 }
rows_of c Latch = record { kind = Latch; own = 2 + 2 * c.inputs; count = c.latches; at = 0 }
rows_of c Lamp = record { kind = Lamp; own = 0; count = literals c; at = literals_at c }
rows_of c Gate = record { kind = Gate; own = 2 + 2 * c.inputs + 2 * c.latches; count = c.gates; at = gates_at c }

-- what is written for `count` of a kind, the first with the literal own and its words at word `at`
unfoldable pub run : (Kind → List ℕ → List ℕ) → LineKind → ℕ → ℕ → List ℕ → ℕ → List ℕ
run each kind own count words at = write_rows each (several (coded kind) own count []) (drop at words)

-- the same for such rows
abbrev pub block : (Kind → List ℕ → List ℕ) → Rows → List ℕ → List ℕ
block each r words = run each r.kind r.own r.count words r.at

-- the operands of gates stand below their own literals
abbrev pub Below : ℕ → ℕ → List ℕ → ℕ → Type 0
Below own count words at = (i : ℕ) → i < count → (get_or words (at + 2 * i) 0 < own + 2 * i) × (get_or words (at + 2 * i + 1) 0 < own + 2 * i)

-- those rows are there, as each of them is
pub record Lines (r : Rows) (words : List ℕ) : Type 0 where
  pub literals : r.own + 2 * r.count ≤ 10000
  pub there : r.at + r.count * width (coded r.kind 0) ≤ length words
  pub small : SmallWords words (r.at + r.count * width (coded r.kind 0))
  pub below : r.kind ≡ Gate → Below r.own r.count words r.at

-- what the passes may assume of a circuit
pub record Writable (c : Counts) (words : List ℕ) : Type 0 where
  pub bounded : Bounded c
  pub long : table_length c ≤ length words
  pub small : SmallWords words (table_length c)
  pub below : Below (2 + 2 * c.inputs + 2 * c.latches) c.gates words (gates_at c)

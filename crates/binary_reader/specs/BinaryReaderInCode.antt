-- What the functions of the binary reader answer: positions in place of the texts that are left; nothing here has to be believed. Assumes nothing.
use Rattle.std.specs.Prelude.{◌≡◌, List, [], ◌∷◌, ℕ, ◌≤◌, length, Option, Some, None, Result}
use Rattle.circuit.specs.declared.Refusal.{Refusal}
use Rattle.circuit.specs.Answer.{answered, answer_or}
use Rattle.text.specs.declared.LineKind.{LineKind}
use Rattle.text.specs.declared.LineKind.TheVariants.{Input, Latch, Lamp, Gate}
use Rattle.text.specs.Part.{Part, got, ill}
use Rattle.text.specs.Outcome.{Outcome, accepted}
use Rattle.text.specs.OutcomeInCode.{after}
use Rattle.lines.specs.declared.Number.{Number}
use Rattle.lines.specs.LinesInCode.{from}
use Rattle.binary.specs.Gate.{Differences}
use Rattle.binary.specs.Binary.{Row}
use Rattle.binary_reader.specs.declared.ReadGate.{ReadGate}
use Rattle.binary_reader.specs.declared.GateRow.{GateRow}

-- a difference, and the text behind the position after it
unfoldable pub difference_part : List ℕ → Option Number → Part ℕ
difference_part text (Some n) = got n.value (from text n.next)
difference_part text None = ill

-- that position
unfoldable pub difference_end : Option Number → ℕ
difference_end (Some n) = n.next
difference_end None = 0

-- A difference of a text, read as p
pub record DifferenceFound (text : List ℕ) (p : Part ℕ) (n : Option Number) : Type 0 where
  pub reads : p ≡ difference_part text n
  pub within : difference_end n ≤ length text

-- the differences of a gate, and the text behind the position after them
unfoldable pub gate_part : List ℕ → Option ReadGate → Part Differences
gate_part text (Some g) = got (record { first = g.first; second = g.second }) (from text g.next)
gate_part text None = ill

unfoldable pub gate_end : Option ReadGate → ℕ
gate_end (Some g) = g.next
gate_end None = 0

-- A gate of a text, read as p
pub record GateFound (text : List ℕ) (p : Part Differences) (g : Option ReadGate) : Type 0 where
  pub reads : p ≡ gate_part text g
  pub within : gate_end g ≤ length text

-- the row where nothing is refused
abbrev pub row_of : Result GateRow Refusal → GateRow
row_of r = answer_or (record { left = 0; right = 0; next = 0 }) r

-- A gate of a text with the outcome o: its refusal, or else its operands, at most the own literal, and what is left of the text
pub record RowFound (text : List ℕ) (own : ℕ) (o : Outcome Row) (r : Result GateRow Refusal) : Type 0 where
  pub reads : o ≡ after (answered r) (accepted (record { words = (row_of r).left ∷ (row_of r).right ∷ []; rest = from text (row_of r).next }))
  pub within : (row_of r).next ≤ length text
  pub left : (row_of r).left ≤ own
  pub right : (row_of r).right ≤ own

-- the kinds of which each has a line: an input has none, and gates stand in bytes of their own
abbrev pub HasLine : LineKind → Type 0
HasLine Input = ⊥
HasLine Latch = Unit {0}
HasLine Lamp = Unit {0}
HasLine Gate = ⊥

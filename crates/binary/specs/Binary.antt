-- The binary form of a circuit's text (specification, 4.16): how it is written, and how it is read or refused with 1 to 4, 6 to 9 and 26.
-- No input lines, latch lines without their own literal, each gate as two differences; byte 10 is the only line ending.
-- Decided here: M is I + L + A, else 3; `c` and byte 10 may stand right behind the last gate. Assumes nothing.
use Rattle.std.specs.Prelude.{List, [], ◌∷◌, ◌++◌, ℕ, get_or}
use Rattle.circuit.specs.declared.Counts.{Counts}
use Rattle.circuit.specs.Table.{top, Kind, input, latch, literal, gate}
use Rattle.text.specs.Part.{got, ill}
use Rattle.text.specs.Line.{newline, line_text, read_line}
use Rattle.text.specs.Outcome.{Outcome, accepted, refused, tested, onward}
use Rattle.text.specs.Text.{shown, write_opened, words, line_tests, Lines, Content, read_opened}
use Rattle.binary.specs.Gate.{differences, gate_bytes, read_gate, gate_tests, operands}

-- `aig` and a space
abbrev pub binary_magic : List ℕ
binary_magic = 97 ∷ 105 ∷ 103 ∷ 32 ∷ []

-- ---- writing

-- the bytes for a kind whose words open ws
unfoldable pub row_bytes : Kind → List ℕ → List ℕ
row_bytes (input own) ws = []
row_bytes (latch own) ws = line_text (get_or ws 0 0 ∷ shown own (get_or ws 1 0))
row_bytes literal ws = line_text (get_or ws 0 0 ∷ [])
row_bytes (gate own) ws = gate_bytes (differences own (get_or ws 0 0) (get_or ws 1 0))

-- the first line, then the bytes for each kind, in order
abbrev pub write_binary : Counts → List ℕ → List ℕ
write_binary c table = write_opened binary_magic row_bytes c table

-- ---- reading

-- What is read for a kind: its words, and the text behind it
pub record Row : Type 0 where
  pub words : List ℕ
  pub rest : List ℕ

-- the numbers of a line with the own literal that a latch line does not show
unfoldable pub owned : Kind → List ℕ → List ℕ
owned (latch own) ns = own ∷ ns
owned (input own) ns = ns
owned literal ns = ns
owned (gate own) ns = ns

-- a line: 4, 6, 8
unfoldable pub read_line_row : ℕ → Kind → List ℕ → Outcome Row
read_line_row most k t = elim (read_line newline t) [
  | ill ↦ refused 4
  | got ns rest ↦ tested (line_tests most k (owned k ns)) (accepted (record { words = words k (owned k ns); rest = rest }))
]

-- a gate: 26, then 7
unfoldable pub read_gate_row : ℕ → List ℕ → Outcome Row
read_gate_row own t = elim (read_gate t) [
  | ill ↦ refused 26
  | got d rest ↦ tested (gate_tests own d) (accepted (record { words = operands own d; rest = rest }))
]

-- nothing for an input, a line for a latch or a literal, two differences for a gate; `most` is the largest literal
unfoldable pub read_row : ℕ → Kind → List ℕ → Outcome Row
read_row most (input own) t = accepted (record { words = []; rest = t })
read_row most (latch own) t = read_line_row most (latch own) t
read_row most literal t = read_line_row most literal t
read_row most (gate own) t = read_gate_row own t

-- the outcome of going on from what was accepted
unfoldable pub then : {A B : Type 0} → Outcome A → (A → Outcome B) → Outcome B
then (accepted a) f = f a
then (refused n) f = refused n

-- a row in front of others; it shows no own literal
abbrev pub row_in_front : Row → Lines → Lines
row_in_front r l = record { owns = l.owns; words = r.words ++ l.words; rest = l.rest }

-- a row for each kind, in order
unfoldable pub read_rows : ℕ → List Kind → List ℕ → Outcome Lines
read_rows most [] t = accepted (record { owns = []; words = []; rest = t })
read_rows most (k ∷ ks) t = then (read_row most k t) (λ r. onward (row_in_front r) (read_rows most ks r.rest))

-- the rows of a circuit
abbrev pub circuit_rows : Counts → List Kind → List ℕ → Outcome Lines
circuit_rows c ks t = read_rows (top c) ks t

-- 1, 2, 3, then row by row, 9
unfoldable pub read_binary : List ℕ → Outcome Content
read_binary t = read_opened binary_magic newline circuit_rows t

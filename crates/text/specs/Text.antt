-- The text of a circuit (specification, 4.4 to 4.7): how it is written, and how it is read or refused with 1 to 9.
-- Decided here: a last `c` without the ending is no line, and so is 9. Assumes nothing.
use Rattle.std.specs.Prelude.{Bool, true, false, ◌&&◌, List, [], ◌∷◌, ◌++◌, ℕ, zero, suc, leb, eqb, length, get_or, drop}
use Rattle.circuit.specs.declared.Counts.{Counts}
use Rattle.circuit.specs.Refusal.{Test, ◌or◌}
use Rattle.circuit.specs.Table.{variables, top, ceiling_tests, Kind, input, latch, literal, gate, kinds, width, row_tests}
use Rattle.text.specs.Part.{Part, got, ill}
use Rattle.text.specs.Line.{newline, office_newline, line_text, strip, read_line, split_line}
use Rattle.text.specs.Outcome.{Outcome, accepted, refused, tested, further, onward}

-- `aag` and a space
abbrev pub magic : List ℕ
magic = 97 ∷ 97 ∷ 103 ∷ 32 ∷ []

-- B and C, up to the last that is not 0
unfoldable pub further_numbers : ℕ → ℕ → List ℕ
further_numbers zero zero = []
further_numbers (suc b) zero = suc b ∷ []
further_numbers b (suc c) = b ∷ suc c ∷ []

-- M I L O A, then those
unfoldable pub head_numbers : Counts → List ℕ
head_numbers c = variables c ∷ c.inputs ∷ c.latches ∷ c.lamps ∷ c.gates ∷ further_numbers c.bads c.constraints

-- ---- writing

-- how the latch with the literal own shows its reset word: 0 is left out, and no start value (2) is the own literal
unfoldable pub shown : ℕ → ℕ → List ℕ
shown own word = elim word [ zero ↦ [] | suc r ↦ elim r [ zero ↦ 1 ∷ [] | suc n ↦ own ∷ [] ] ]

-- the numbers of a line whose words open ws
unfoldable pub numbers : Kind → List ℕ → List ℕ
numbers (input own) ws = own ∷ []
numbers (latch own) ws = own ∷ get_or ws 0 0 ∷ shown own (get_or ws 1 0)
numbers literal ws = get_or ws 0 0 ∷ []
numbers (gate own) ws = own ∷ get_or ws 0 0 ∷ get_or ws 1 0 ∷ []

-- the line of a kind whose words open ws
unfoldable pub line_of : Kind → List ℕ → List ℕ
line_of k ws = line_text (numbers k ws)

-- what is written for each kind, in order
unfoldable pub write_rows : (Kind → List ℕ → List ℕ) → List Kind → List ℕ → List ℕ
write_rows each [] ws = []
write_rows each (k ∷ ks) ws = each k ws ++ write_rows each ks (drop (width k) ws)

-- a first line that opens with these bytes, then the rest; the table's words beyond its length are ignored
unfoldable pub write_opened : List ℕ → (Kind → List ℕ → List ℕ) → Counts → List ℕ → List ℕ
write_opened opening each c table = opening ++ (line_text (head_numbers c) ++ write_rows each (kinds c) table)

-- the text: a line for each kind
abbrev pub write_text : Counts → List ℕ → List ℕ
write_text c table = write_opened magic line_of c table

-- ---- reading

-- how many numbers a line has
unfoldable pub fits : Kind → ℕ → Bool
fits kind n = elim kind [ input own ↦ eqb n 1 | latch own ↦ leb 2 n && leb n 3 | literal ↦ eqb n 1 | gate own ↦ eqb n 3 ]

-- the own literal is the one due
unfoldable pub owns : Kind → List ℕ → Bool
owns kind ns =
    elim kind [ input own ↦ eqb (get_or ns 0 0) own | latch own ↦ eqb (get_or ns 0 0) own | literal ↦ true | gate own ↦ eqb (get_or ns 0 0) own ]

-- the reset word of a latch whose line shows the literal own and the reset r: 0, 1, 2 for the own literal, and 3 for any other number
unfoldable pub reset_word : ℕ → ℕ → ℕ
reset_word own r = elim (leb r 1) [ true ↦ r | false ↦ elim (eqb r own) [ true ↦ 2 | false ↦ 3 ] ]

-- the words that a line gives; an absent reset is 0
unfoldable pub words : Kind → List ℕ → List ℕ
words (input own) ns = []
words (latch own) ns = get_or ns 1 0 ∷ reset_word (get_or ns 0 0) (get_or ns 2 0) ∷ []
words literal ns = get_or ns 0 0 ∷ []
words (gate own) ns = get_or ns 1 0 ∷ get_or ns 2 0 ∷ []

-- the own literal that a line shows; a line of one literal has none
unfoldable pub shown_own : Kind → List ℕ → List ℕ
shown_own kind ns = elim kind [ input own ↦ get_or ns 0 0 ∷ [] | latch own ↦ get_or ns 0 0 ∷ [] | literal ↦ [] | gate own ↦ get_or ns 0 0 ∷ [] ]

-- 4, 5, 6, then 7 or 8 for a line's numbers; `most` is the largest literal
unfoldable pub line_tests : ℕ → Kind → List ℕ → List Test
line_tests most k ns = fits k (length ns) or 4 ∷ owns k ns or 5 ∷ row_tests most k (words k ns)

-- the end of the text, or the line that is just `c`, after which everything is skipped
unfoldable pub ends : List ℕ → List ℕ → Bool
ends ending [] = true
ends ending (b ∷ t) = elim (strip (99 ∷ ending) (b ∷ t)) [ got u rest ↦ true | ill ↦ false ]

-- What lines are read as: their own literals, their words, and the text behind them
pub record Lines : Type 0 where
  pub owns : List ℕ
  pub words : List ℕ
  pub rest : List ℕ

-- a line in front of others
abbrev pub in_front : Kind → List ℕ → Lines → Lines
in_front k ns l = record { owns = shown_own k ns ++ l.owns; words = words k ns ++ l.words; rest = l.rest }

-- a line for each kind, in order, each judged by its tests; 4 where there is none
unfoldable pub read_lines : List ℕ → (Kind → List ℕ → List Test) → List Kind → List ℕ → Outcome Lines
read_lines ending tests [] t = accepted (record { owns = []; words = []; rest = t })
read_lines ending tests (k ∷ ks) t = elim (read_line ending t) [
  | ill ↦ refused 4
  | got ns rest ↦ tested (tests k ns) (onward (in_front k ns) (read_lines ending tests ks rest))
]

-- the numbers of a first line that opens with these bytes: M I L O A B C J F, the last four optional
unfoldable pub first_line : List ℕ → List ℕ → List ℕ → Part (List ℕ)
first_line opening ending t = elim (strip opening t) [ got u r ↦ split_line ending 9 r | ill ↦ ill ]

-- those of the first line
abbrev pub header : List ℕ → List ℕ → Part (List ℕ)
header ending t = first_line magic ending t

-- the counts among them; one that is left off is 0
unfoldable pub counts_of : List ℕ → Counts
counts_of ns = record {
  inputs = get_or ns 1 0;
  latches = get_or ns 2 0;
  lamps = get_or ns 3 0;
  gates = get_or ns 4 0;
  bads = get_or ns 5 0;
  constraints = get_or ns 6 0;
}

-- 2, then 3 for J, F and the counts
unfoldable pub count_tests : List ℕ → List Test
count_tests ns = leb 5 (length ns) or 2 ∷ eqb (get_or ns 7 0) 0 or 3 ∷ eqb (get_or ns 8 0) 0 or 3 ∷ ceiling_tests (counts_of ns)

-- 2, then 3 for the first line's numbers
unfoldable pub header_tests : List ℕ → List Test
header_tests ns = count_tests ns ++ (eqb (get_or ns 0 0) (variables (counts_of ns)) or 3 ∷ [])

-- What a text says: a circuit's counts, and its words
pub record Content : Type 0 where
  pub counts : Counts
  pub words : List ℕ

-- 1, 2, 3, then what is read behind a first line that opens with these bytes, 9
unfoldable pub read_opened : List ℕ → List ℕ → (Counts → List Kind → List ℕ → Outcome Lines) → List ℕ → Outcome Content
read_opened opening ending read t = tested (leb (length t) 60000 or 1 ∷ []) (elim (first_line opening ending t) [
  | ill ↦ refused 2
  | got ns rest ↦
      tested (header_tests ns) (onward (λ l. record { counts = counts_of ns; words = l.words })
      (further (λ l. ends ending l.rest or 9 ∷ []) (read (counts_of ns) (kinds (counts_of ns)) rest)))
])

-- the lines of a circuit, each judged by 4, 5, 6, then 7 or 8
abbrev pub circuit_lines : List ℕ → Counts → List Kind → List ℕ → Outcome Lines
circuit_lines ending c ks t = read_lines ending (line_tests (top c)) ks t

-- 1, 2, 3, then line by line, 9, in a text whose lines have this ending
abbrev pub read_ended : List ℕ → List ℕ → Outcome Content
read_ended ending t = read_opened magic ending (circuit_lines ending) t

-- "the first line decides": byte 10 where it is a line with that ending, else bytes 13 and 10
unfoldable pub ending_of : List ℕ → List ℕ
ending_of t = elim (header newline t) [ got ns r ↦ newline | ill ↦ office_newline ]

-- every line has the first one's ending
unfoldable pub read_text : List ℕ → Outcome Content
read_text t = read_ended (ending_of t) t

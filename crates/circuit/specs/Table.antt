-- Counts and the table of words (specification, 3.5 to 3.7), the rules for the words, and the circuit that they make. Assumes nothing.
use Rattle.std.specs.Prelude.{List, [], ◌∷◌, ◌++◌, ℕ, zero, suc, ◌+◌, ◌*◌, leb, ltb, length, get_or, drop}
use Rattle.three.specs.Lists.{tabulate}
use Rattle.circuit.specs.declared.Counts.{Counts}
use Rattle.circuit.specs.Circuit.{Circuit}
use Rattle.circuit.specs.Refusal.{Test, ◌or◌, all_hold}

-- counts without bad states and constraints
abbrev pub plain_counts : ℕ → ℕ → ℕ → ℕ → Counts
plain_counts i l o a = record { inputs = i; latches = l; lamps = o; gates = a; bads = 0; constraints = 0 }

-- M
abbrev pub variables : Counts → ℕ
variables c = c.inputs + c.latches + c.gates

-- the largest literal, 2M + 1
abbrev pub top : Counts → ℕ
top c = 2 * variables c + 1

-- refusal 3: the ceilings
unfoldable pub ceiling_tests : Counts → List Test
ceiling_tests c =
    leb c.inputs 256 or 3 ∷ leb c.latches 512 or 3 ∷ leb c.lamps 64 or 3 ∷ leb c.gates 3327 or 3
    ∷ leb c.bads 64 or 3 ∷ leb c.constraints 64 or 3 ∷ []

-- how many verdicts a run gives: one for each lamp, then one for each bad state
abbrev pub verdicts : Counts → ℕ
verdicts c = c.lamps + c.bads

-- how many lines have one literal: the lamps, then the bad states, then the constraints
abbrev pub literals : Counts → ℕ
literals c = verdicts c + c.constraints

-- the words of the latches come first; the first literal of those lines, which is a lamp's, the first of the bad states, of the constraints, and the first gate stand at these words
abbrev pub literals_at : Counts → ℕ
literals_at c = 2 * c.latches

abbrev pub bads_at : Counts → ℕ
bads_at c = literals_at c + c.lamps

abbrev pub constraints_at : Counts → ℕ
constraints_at c = literals_at c + verdicts c

abbrev pub gates_at : Counts → ℕ
gates_at c = literals_at c + literals c

-- the table takes so many words
abbrev pub table_length : Counts → ℕ
table_length c = gates_at c + 2 * c.gates

-- The kinds of line that a circuit's text has; an input, a latch and a gate with the own literal due there
pub data Kind : Type 0 where
  input latch gate : ℕ → Kind
  literal : Kind

-- n lines of a kind, the first with the literal own, and then the lines ks
unfoldable pub several : (ℕ → Kind) → ℕ → ℕ → List Kind → List Kind
several kind own zero ks = ks
several kind own (suc n) ks = kind own ∷ several kind (own + 2) n ks

-- one line for each input, latch, lamp, bad state, constraint and gate, in that order
unfoldable pub kinds : Counts → List Kind
kinds c =
    several input 2 c.inputs (several latch (2 + 2 * c.inputs) c.latches
    (several (λ own. literal) 0 (literals c) (several gate (2 + 2 * c.inputs + 2 * c.latches) c.gates [])))

-- how many words of the table belong to a line
unfoldable pub width : Kind → ℕ
width kind = elim kind [ input own ↦ 0 | latch own ↦ 2 | literal ↦ 1 | gate own ↦ 2 ]

-- rules 6 and 8 for a line's words, the first of ws; `most` is the largest literal
unfoldable pub literal_tests : ℕ → Kind → List ℕ → List Test
literal_tests most (input own) ws = []
literal_tests most (latch own) ws = leb (get_or ws 0 0) most or 6 ∷ leb (get_or ws 1 0) 2 or 8 ∷ []
literal_tests most literal ws = leb (get_or ws 0 0) most or 6 ∷ []
literal_tests most (gate own) ws = leb (get_or ws 0 0) most or 6 ∷ leb (get_or ws 1 0) most or 6 ∷ []

-- rule 7: a gate's operands are below its own literal
unfoldable pub operand_tests : Kind → List ℕ → List Test
operand_tests (input own) ws = []
operand_tests (latch own) ws = []
operand_tests literal ws = []
operand_tests (gate own) ws = ltb (get_or ws 0 0) own or 7 ∷ ltb (get_or ws 1 0) own or 7 ∷ []

-- rules 6, 7 and 8
unfoldable pub row_tests : ℕ → Kind → List ℕ → List Test
row_tests most k ws = literal_tests most k ws ++ operand_tests k ws

-- the same for the words of several lines
unfoldable pub table_tests : ℕ → List Kind → List ℕ → List Test
table_tests most [] ws = []
table_tests most (k ∷ ks) ws = row_tests most k ws ++ table_tests most ks (drop (width k) ws)

-- for each latch its next literal and its reset; then the literals of lamps, bad states and constraints; then two operands a gate
unfoldable pub circuit_of : Counts → List ℕ → Circuit
circuit_of c words = record {
  inputs = c.inputs;
  latches = tabulate c.latches (λ i. record { next = get_or words (2 * i) 0; reset = get_or words (2 * i + 1) 0 });
  lamps = tabulate c.lamps (λ i. get_or words (literals_at c + i) 0);
  gates = tabulate c.gates (λ i. record { left = get_or words (gates_at c + 2 * i) 0; right = get_or words (gates_at c + 2 * i + 1) 0 });
  bads = tabulate c.bads (λ i. get_or words (bads_at c + i) 0);
  constraints = tabulate c.constraints (λ i. get_or words (constraints_at c + i) 0);
}

-- 10 for the table, 11
unfoldable pub word_tests : Counts → List ℕ → List Test
word_tests c table = leb (table_length c) (length table) or 10 ∷ all_hold (table_tests (top c) (kinds c) table) or 11 ∷ []

-- a circuit that is written, or read for a tick: 3, 10 for the table, 11
unfoldable pub circuit_tests : Counts → List ℕ → List Test
circuit_tests c table = ceiling_tests c ++ word_tests c table

-- 16: a run without a lamp or a bad state has nothing to judge
unfoldable pub lamp_tests : Counts → List Test
lamp_tests c = leb 1 (verdicts c) or 16 ∷ []

-- a circuit that is run: 3, 16, 10 for the table, 11
unfoldable pub board_tests : Counts → List ℕ → List Test
board_tests c table = ceiling_tests c ++ (lamp_tests c ++ word_tests c table)

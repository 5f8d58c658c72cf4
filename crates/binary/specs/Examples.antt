-- S and C of the bench circuits (specification, 9) in the binary form; each refusal, which comes first where two would do, and what is read all the same. Assumes nothing.
use Rattle.std.specs.Prelude.{◌≡◌, refl, List, [], ◌∷◌, ◌++◌, map, ℕ, replicate}
use Prim.Native.String.{String}
use Rattle.circuit.specs.Refusal.{refusal}
use Rattle.circuit.specs.Table.{plain_counts, ceiling_tests, several, kinds, width, row_tests, literal_tests, operand_tests}
use Rattle.text.specs.Decimal.{digits, decimal, is_digit, may_grow, read_on, read_number}
use Rattle.text.specs.Line.{ended_line, strip, prepend, split_line}
use Rattle.text.specs.Outcome.{Outcome, accepted, refused, tested, further, onward}
use Rattle.text.specs.Text.{write_rows, write_opened, further_numbers, head_numbers, shown, fits, owns, reset_word, words, line_tests, ends, first_line, counts_of, count_tests, header_tests, Content, read_opened}
use Rattle.text.specs.Calls.{into_table}
use Rattle.text.specs.Bench.{bytes}
use Rattle.binary.specs.Difference.{groups_of, groups, last_group, read_second, read_difference}
use Rattle.binary.specs.Gate.{differences, gate_bytes, read_gate, gate_tests, operands}
use Rattle.binary.specs.Binary.{row_bytes, write_binary, owned, read_line_row, read_gate_row, read_row, then, read_rows, read_binary}
use Rattle.binary.specs.Calls.{read_binary_into}

-- Lines, as the document shows them, then the gates' bytes; and the outcome of reading them
pub record Case : Type 0 where
  pub lines : String
  pub gates : List ℕ
  pub outcome : Outcome Content

-- the whole text
abbrev pub text_of : Case → List ℕ
text_of c = bytes c.lines ++ c.gates

-- `refuses t g n`: refused with n
abbrev pub refuses : String → List ℕ → ℕ → Case
refuses t g n = record { lines = t; gates = g; outcome = refused n }

-- what a circuit of these counts and words is
abbrev pub constrained : ℕ → ℕ → ℕ → ℕ → ℕ → ℕ → List ℕ → Content
constrained i l o a b c ws = record { counts = record { inputs = i; latches = l; lamps = o; gates = a; bads = b; constraints = c }; words = ws }

-- the same without bad states and constraints
abbrev pub circuit : ℕ → ℕ → ℕ → ℕ → List ℕ → Content
circuit i l o a ws = record { counts = plain_counts i l o a; words = ws }

-- `says t g c`: read as c
abbrev pub says : String → List ℕ → Content → Case
says t g c = record { lines = t; gates = g; outcome = accepted c }

-- read_binary and write_binary, all of them open to computation
unfoldable pub outcome_of : List ℕ → Outcome Content
unfolding refusal ceiling_tests several kinds row_tests literal_tests operand_tests is_digit may_grow read_on read_number strip prepend split_line tested further onward fits owns reset_word words line_tests ends first_line counts_of count_tests header_tests read_opened last_group read_second read_difference read_gate gate_tests operands owned read_line_row read_gate_row read_row then read_rows read_binary
outcome_of t = read_binary t

unfoldable pub written : Content → List ℕ
unfolding several kinds width head_numbers further_numbers shown ended_line decimal digits groups_of groups differences gate_bytes row_bytes write_rows write_opened
written c = write_binary c.counts c.words

-- S and C
pub S : Content
S = circuit 0 2 1 1 (4 ∷ 0 ∷ 2 ∷ 1 ∷ 6 ∷ 4 ∷ 2 ∷ [])

pub C : Content
C = circuit 0 2 1 3 (3 ∷ 0 ∷ 11 ∷ 0 ∷ 10 ∷ 4 ∷ 3 ∷ 5 ∷ 2 ∷ 9 ∷ 7 ∷ [])

pub bench_cases : List Case
bench_cases =
    says "aig 3 0 2 1 1/4/2 1/6/" (2 ∷ 2 ∷ []) S
    ∷ says "aig 5 0 2 1 3/3/11/10/" (2 ∷ 1 ∷ 3 ∷ 3 ∷ 1 ∷ 2 ∷ []) C
    ∷ []

-- both are read as what they are, and written as what was read
pub bench : (map (λ c. outcome_of (text_of c)) bench_cases ≡ map (λ c. c.outcome) bench_cases)
    × (written S ∷ written C ∷ [] ≡ map (λ c. text_of c) bench_cases)
unfolding outcome_of written bytes S C bench_cases
bench = (refl, refl)

-- no start value is written as the own literal, a reset of 0 is left out
pub resets_shown : written (circuit 1 3 0 0 (3 ∷ 0 ∷ 3 ∷ 1 ∷ 3 ∷ 2 ∷ [])) ≡ bytes "aig 4 1 3 0 0/3/3 1/3 8/"
unfolding written bytes
resets_shown = refl

-- operands are put larger first before writing
pub larger_first : written (circuit 0 2 1 1 (4 ∷ 0 ∷ 2 ∷ 1 ∷ 6 ∷ 2 ∷ 4 ∷ [])) ≡ written S
unfolding written S
larger_first = refl

-- B and C stand in the first line only up to the last that is not 0; lamps, bad states, constraints, gates
pub counts_shown :
    (written (constrained 1 0 1 1 1 1 (2 ∷ 3 ∷ 5 ∷ 3 ∷ 2 ∷ [])) ≡ bytes "aig 2 1 0 1 1 1 1/2/3/5/" ++ (1 ∷ 1 ∷ []))
    × (written (constrained 1 0 1 0 1 0 (2 ∷ 3 ∷ [])) ≡ bytes "aig 1 1 0 1 0 1/2/3/")
    × (written (constrained 1 0 1 0 0 1 (2 ∷ 3 ∷ [])) ≡ bytes "aig 1 1 0 1 0 0 1/2/3/")
unfolding written bytes
counts_shown = (refl, refl, refl)

pub edges : List Case
edges =
    refuses "" [] 2
    ∷ refuses "aag 0 0 0 0 0/" [] 2
    ∷ refuses "aig 0 0 0 0 0" [] 2
    ∷ refuses "aig 0 0 0 0 0\r/" [] 2
    ∷ refuses "aig 0 0 0 0/" [] 2
    ∷ refuses "aig 257 257 0 0 0/" [] 3
    ∷ refuses "aig 2 1 0 0 0/" [] 3
    -- up to nine numbers; J and F are 0, B and C at most 64
    ∷ refuses "aig 0 0 0 0 0 0 0 0 0 0/" [] 2
    ∷ refuses "aig 0 0 0 0 0 0 0 1/" [] 3
    ∷ refuses "aig 0 0 0 0 0 0 0 0 1/" [] 3
    ∷ refuses "aig 0 0 0 0 0 65/" [] 3
    ∷ refuses "aig 0 0 0 0 0 0 65/" [] 3
    ∷ refuses "aig 0 0 0 0 0 1/" [] 4
    ∷ refuses "aig 0 0 0 0 0 0 1/2/" [] 6
    ∷ says "aig 1 1 0 0 0 1/3/" [] (constrained 1 0 0 0 1 0 (3 ∷ []))
    ∷ says "aig 1 1 0 0 0 0 1/3/" [] (constrained 1 0 0 0 0 1 (3 ∷ []))
    ∷ says "aig 1 1 0 1 0 1 1 0/2/3/1/" [] (constrained 1 0 1 0 1 1 (2 ∷ 3 ∷ 1 ∷ []))
    ∷ says "aig 2 1 0 1 1 1 1 0 0/2/3/5/" (1 ∷ 1 ∷ []) (constrained 1 0 1 1 1 1 (2 ∷ 3 ∷ 5 ∷ 3 ∷ 2 ∷ []))
    ∷ refuses "aig 1 0 1 0 0/" [] 4
    ∷ refuses "aig 1 0 1 0 0/3 0 0/" [] 4
    ∷ refuses "aig 1 0 1 0 0/3 0/9" [] 9
    ∷ refuses "aig 0 0 0 1 0/0 0/" [] 4
    ∷ refuses "aig 1 0 1 0 0/4 9/" [] 6
    ∷ refuses "aig 2 0 2 0 0/3 9/4 0 0 0/" [] 8
    ∷ refuses "aig 0 0 0 1 0/2/" [] 6
    ∷ refuses "aig 1 0 1 0 0/3 3/" [] 8
    ∷ refuses "aig 2 0 2 0 0/3 2/5 2/" [] 8
    ∷ refuses "aig 1 0 1 0 0/4 3/" [] 6
    -- 26: cut off before, between and within the differences, longer than two bytes, a needless zero group
    ∷ refuses "aig 1 0 0 0 1/" [] 26
    ∷ refuses "aig 1 0 0 0 1/" (1 ∷ []) 26
    ∷ refuses "aig 1 0 0 0 1/" (129 ∷ []) 26
    ∷ refuses "aig 1 0 0 0 1/" (129 ∷ 128 ∷ 1 ∷ 0 ∷ []) 26
    ∷ refuses "aig 1 0 0 0 1/" (129 ∷ 0 ∷ 0 ∷ []) 26
    -- 7: a first difference of 0, one above the own literal, a second above the first operand
    ∷ refuses "aig 1 0 0 0 1/" (0 ∷ 0 ∷ []) 7
    ∷ refuses "aig 1 0 0 0 1/" (3 ∷ 0 ∷ []) 7
    ∷ refuses "aig 1 0 0 0 1/" (1 ∷ 2 ∷ []) 7
    -- both differences are read before 7, and 7 of a gate comes before 26 of the next
    ∷ refuses "aig 1 0 0 0 1/" (0 ∷ 128 ∷ []) 26
    ∷ refuses "aig 2 0 0 0 2/" (0 ∷ 0 ∷ 128 ∷ []) 7
    -- after the last gate
    ∷ refuses "aig 1 0 0 0 1/" (2 ∷ 0 ∷ 10 ∷ []) 9
    ∷ refuses "aig 1 0 0 0 1/" (2 ∷ 0 ∷ 99 ∷ []) 9
    ∷ says "aig 1 0 0 0 1/" (2 ∷ 0 ∷ 99 ∷ 10 ∷ 7 ∷ []) (circuit 0 0 0 1 (0 ∷ 0 ∷ []))
    -- a first difference equal to the own literal is operand 0
    ∷ says "aig 1 0 0 0 1/" (1 ∷ 1 ∷ []) (circuit 0 0 0 1 (1 ∷ 0 ∷ []))
    ∷ says "aig 1 0 1 0 0/3 0/" [] (circuit 0 1 0 0 (3 ∷ 0 ∷ []))
    -- the own literal that a latch line does not show is no start value
    ∷ says "aig 1 0 1 0 0/3 2/" [] (circuit 0 1 0 0 (3 ∷ 2 ∷ []))
    ∷ says "aig 3 1 2 0 0/3 1/2 6/" [] (circuit 1 2 0 0 (3 ∷ 1 ∷ 2 ∷ 2 ∷ []))
    -- no input lines, and gate bytes may be 10, 13 or 99
    ∷ says "aig 61 59 0 0 2/" (99 ∷ 10 ∷ 13 ∷ 10 ∷ []) (circuit 59 0 0 2 (21 ∷ 11 ∷ 109 ∷ 99 ∷ []))
    -- two groups, low group first
    ∷ says "aig 257 256 0 0 1/" (130 ∷ 3 ∷ 127 ∷ []) (circuit 256 0 0 1 (128 ∷ 1 ∷ []))
    ∷ []

pub edge_cases : map (λ c. outcome_of (text_of c)) edges ≡ map (λ c. c.outcome) edges
unfolding outcome_of bytes edges
edge_cases = refl

-- 60,001 bytes are refused with 1, though the first line is ill-formed too
pub longest_text : outcome_of (replicate 60001 97) ≡ refused 1
unfolding outcome_of
longest_text = refl

-- a lent table without a word is too short for a lamp, and 9 comes before 10
pub short_table : map (λ (t : String). read_binary_into (bytes t) []) ("aig 0 0 0 1 0/0/" ∷ "aig 0 0 0 1 0/0/x" ∷ []) ≡ refused 10 ∷ refused 9 ∷ []
unfolding outcome_of bytes into_table count_tests
short_table = refl

-- one group up to 127, two up to 16,383
pub group_bounds : map (λ n. groups n) (0 ∷ 127 ∷ 128 ∷ 8190 ∷ 16383 ∷ 16384 ∷ [])
    ≡ (0 ∷ []) ∷ (127 ∷ []) ∷ (128 ∷ 1 ∷ []) ∷ (254 ∷ 63 ∷ []) ∷ (255 ∷ 127 ∷ []) ∷ (128 ∷ 128 ∷ 1 ∷ []) ∷ []
unfolding groups groups_of
group_bounds = refl

-- Beginners' boards, computed: texts and tables inside the rules and just outside, and the order of the refusals. Assumes nothing.
use Rattle.std.specs.Prelude.{◌≡◌, refl, List, [], ◌∷◌, ℕ, ◌/◌, ◌^◌}
use Prim.Native.String.{String}
use Rattle.three.specs.Lists.{every, over}
use Rattle.circuit.specs.declared.Counts.{Counts}
use Rattle.circuit.specs.Refusal.{refusal, all_hold}
use Rattle.circuit.specs.Table.{plain_counts, ceiling_tests, lamp_tests, several, kinds, width, row_tests, table_tests, literal_tests, operand_tests, word_tests, board_tests}
use Rattle.text.specs.Decimal.{is_digit, may_grow, read_on, read_number}
use Rattle.text.specs.Line.{strip, prepend, split_line}
use Rattle.text.specs.Outcome.{number_of, tested, further, onward, leaves}
use Rattle.text.specs.Text.{fits, owns, reset_word, words, line_tests, ends, read_lines, first_line, counts_of, count_tests, header_tests, read_opened, ending_of, read_text}
use Rattle.text.specs.Calls.{into_table}
use Rattle.text.specs.Bench.{bytes}
use Rattle.cubes.specs.Buffer.{cube_bytes}
use Rattle.beginners.specs.Rules.{small_tests, varies, well_fed, feed_tests, beginners_tests}
use Rattle.beginners.specs.Calls.{read_beginners, buffer_tests, chain_beginners_tests}

-- the number, and the table at exit
unfoldable pub reads : String → List ℕ → List ℕ
unfolding every over refusal ceiling_tests several kinds row_tests literal_tests operand_tests is_digit may_grow read_on read_number strip prepend split_line number_of tested further onward leaves fits owns reset_word words line_tests ends read_lines first_line counts_of count_tests header_tests read_opened ending_of read_text into_table bytes small_tests varies well_fed feed_tests beginners_tests read_beginners
reads text table = number_of (read_beginners (bytes text) table) ∷ leaves (λ c. over c.words table) table (read_beginners (bytes text) table)

unfoldable pub answers : Counts → List ℕ → ℕ → ℕ
unfolding every refusal all_hold ceiling_tests lamp_tests several kinds width row_tests literal_tests operand_tests table_tests word_tests board_tests small_tests varies well_fed feed_tests beginners_tests buffer_tests chain_beginners_tests
answers c table cubes = refusal (chain_beginners_tests c table cubes)

-- with 9 fields a cube takes 3 bytes, so 19,683 bytes hold 6,561, which is 3 to the power 8
pub eight_latches : (cube_bytes 8 ≡ 3) × (19683 / cube_bytes 8 ≡ 3 ^ 8)
unfolding cube_bytes
eight_latches = (refl, refl)

-- T; a latch without a start value; four switches; two operands that are two variables
pub accepts : (reads "aag 1 0 1 1 0/2 3/2/" (9 ∷ 9 ∷ 9 ∷ 9 ∷ []) ≡ 0 ∷ 3 ∷ 0 ∷ 2 ∷ 9 ∷ [])
    × (reads "aag 1 0 1 1 0/2 2 2/2/" (9 ∷ 9 ∷ 9 ∷ []) ≡ 0 ∷ 2 ∷ 2 ∷ 2 ∷ [])
    × (reads "aag 4 4 0 0 0/2/4/6/8/" [] ≡ 0 ∷ [])
    × (reads "aag 3 2 0 1 1/2/4/6/6 4 2/" (9 ∷ 9 ∷ 9 ∷ []) ≡ 0 ∷ 6 ∷ 4 ∷ 2 ∷ [])
unfolding reads
accepts = (refl, refl, refl, refl)

-- a bad state; a constraint; neither, though the first line shows both
pub constrained : (reads "aag 1 1 0 1 0 1/2/2/2/" (9 ∷ 9 ∷ []) ≡ 25 ∷ 9 ∷ 9 ∷ [])
    × (reads "aag 1 1 0 1 0 0 1/2/2/2/" (9 ∷ 9 ∷ []) ≡ 25 ∷ 9 ∷ 9 ∷ [])
    × (reads "aag 1 1 0 1 0 0 0/2/2/" (9 ∷ 9 ∷ []) ≡ 0 ∷ 2 ∷ 9 ∷ [])
unfolding reads
constrained = (refl, refl, refl)

-- a constant lamp, 0 and 1; a constant next literal; a constant operand; one variable twice, as it is and inverted; a fifth switch; a ninth lamp
pub refuses : (reads "aag 0 0 0 1 0/0/" (9 ∷ []) ≡ 25 ∷ 9 ∷ [])
    × (reads "aag 0 0 0 1 0/1/" (9 ∷ []) ≡ 25 ∷ 9 ∷ [])
    × (reads "aag 1 0 1 0 0/2 1/" (9 ∷ 9 ∷ []) ≡ 25 ∷ 9 ∷ 9 ∷ [])
    × (reads "aag 2 1 0 0 1/2/4 2 1/" (9 ∷ 9 ∷ []) ≡ 25 ∷ 9 ∷ 9 ∷ [])
    × (reads "aag 2 1 0 0 1/2/4 2 2/" (9 ∷ 9 ∷ []) ≡ 25 ∷ 9 ∷ 9 ∷ [])
    × (reads "aag 2 1 0 0 1/2/4 2 3/" (9 ∷ 9 ∷ []) ≡ 25 ∷ 9 ∷ 9 ∷ [])
    × (reads "aag 5 5 0 0 0/2/4/6/8/10/" [] ≡ 25 ∷ [])
    × (reads "aag 1 1 0 9 0/2/2/2/2/2/2/2/2/2/2/" (9 ∷ 9 ∷ 9 ∷ 9 ∷ 9 ∷ 9 ∷ 9 ∷ 9 ∷ 9 ∷ []) ≡ 25 ∷ 9 ∷ 9 ∷ 9 ∷ 9 ∷ 9 ∷ 9 ∷ 9 ∷ 9 ∷ 9 ∷ [])
unfolding reads
refuses = (refl, refl, refl, refl, refl, refl, refl, refl)

-- 10, by the text's own length, and 9 come before 25
pub reads_in_order : (reads "aag 0 0 0 1 0/0/" [] ≡ 10 ∷ [])
    × (reads "aag 1 1 0 9 0/2/2/2/2/2/2/2/2/2/2/" (9 ∷ 9 ∷ 9 ∷ 9 ∷ 9 ∷ 9 ∷ 9 ∷ 9 ∷ []) ≡ 10 ∷ 9 ∷ 9 ∷ 9 ∷ 9 ∷ 9 ∷ 9 ∷ 9 ∷ 9 ∷ [])
    × (reads "aag 0 0 0 1 0/0/x" (9 ∷ []) ≡ 9 ∷ 9 ∷ [])
unfolding reads
reads_in_order = (refl, refl, refl)

-- one switch, no latch and no gate: O, B and C
abbrev watching : ℕ → ℕ → ℕ → Counts
watching o b c = record { inputs = 1; latches = 0; lamps = o; gates = 0; bads = b; constraints = c }

-- a bad state alone is 25, not 16, and a constraint alone 16; 10 and 11 before 25
pub watches_in_order : (answers (watching 0 1 0) (2 ∷ []) 19683 ≡ 25)
    × (answers (watching 1 0 1) (2 ∷ 2 ∷ []) 19683 ≡ 25)
    × (answers (watching 0 0 1) (2 ∷ []) 19683 ≡ 16)
    × (answers (watching 0 1 0) [] 19683 ≡ 10)
    × (answers (watching 0 1 0) (4 ∷ []) 19683 ≡ 11)
    × (answers (watching 0 65 0) [] 19683 ≡ 3)
unfolding answers
watches_in_order = (refl, refl, refl, refl, refl, refl)

-- T with the smallest buffer and the largest, and one byte less and more, and with none; 25 before 13, 11 before 25, 10 before 11, 16 before 10, 3 before 16
pub runs_in_order : (answers (plain_counts 0 1 1 0) (3 ∷ 0 ∷ 2 ∷ []) 19683 ≡ 0)
    × (answers (plain_counts 0 1 1 0) (3 ∷ 0 ∷ 2 ∷ []) 65536 ≡ 0)
    × (answers (plain_counts 0 1 1 0) (3 ∷ 0 ∷ 2 ∷ []) 19682 ≡ 13)
    × (answers (plain_counts 0 1 1 0) (3 ∷ 0 ∷ 2 ∷ []) 65537 ≡ 13)
    × (answers (plain_counts 0 1 1 0) (3 ∷ 0 ∷ 2 ∷ []) 0 ≡ 13)
    × (answers (plain_counts 0 1 1 0) (3 ∷ 0 ∷ 1 ∷ []) 0 ≡ 25)
    × (answers (plain_counts 1 0 1 1) (2 ∷ 3 ∷ 2 ∷ []) 19683 ≡ 25)
    × (answers (plain_counts 5 0 1 0) (2 ∷ []) 0 ≡ 25)
    × (answers (plain_counts 0 1 1 0) (1 ∷ 0 ∷ 4 ∷ []) 0 ≡ 11)
    × (answers (plain_counts 0 1 1 0) (1 ∷ 3 ∷ []) 0 ≡ 10)
    × (answers (plain_counts 5 1 0 0) [] 0 ≡ 16)
    × (answers (plain_counts 257 0 0 0) [] 0 ≡ 3)
unfolding answers
runs_in_order = (refl, refl, refl, refl, refl, refl, refl, refl, refl, refl, refl, refl)

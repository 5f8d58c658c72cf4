-- The texts of the bench circuits (specification, 9), and what each is read as; crate bench goes on from there to the run. Assumes nothing.
use Rattle.std.specs.Prelude.{◌≡◌, refl, cond, List, [], ◌∷◌, map, ℕ, eqb}
use Prim.Native.String.{String}
use Prim.Native.Char.{code}
use Rattle.circuit.specs.declared.Counts.{Counts}
use Rattle.circuit.specs.Refusal.{refusal}
use Rattle.circuit.specs.Table.{plain_counts, ceiling_tests, several, kinds, row_tests, literal_tests, operand_tests}
use Rattle.text.specs.Decimal.{is_digit, may_grow, read_on, read_number}
use Rattle.text.specs.Line.{strip, prepend, split_line}
use Rattle.text.specs.Outcome.{Outcome, accepted, refused, tested, further, onward}
use Rattle.text.specs.Text.{fits, owns, reset_word, words, line_tests, ends, read_lines, first_line, counts_of, count_tests, header_tests, Content, read_opened, ending_of, read_text}

-- the document's way to show a text: `/` for byte 10
unfoldable pub bytes : String → List ℕ
bytes String.[] = []
bytes (String.◌∷◌ c s) = cond (eqb (code c) 47) 10 (code c) ∷ bytes s

-- A text, and the outcome of reading it
pub record Case : Type 0 where
  pub text : String
  pub outcome : Outcome Content

-- `t is n`: t is refused with n
infix 68 ◌is◌
abbrev pub ◌is◌ : String → ℕ → Case
t is n = record { text = t; outcome = refused n }

-- t is read as these counts and words
abbrev pub shows : String → Counts → List ℕ → Case
shows t c ws = record { text = t; outcome = accepted (record { counts = c; words = ws }) }

-- `says t i l o a ws`: the same without bad states and constraints
abbrev pub says : String → ℕ → ℕ → ℕ → ℕ → List ℕ → Case
says t i l o a ws = shows t (plain_counts i l o a) ws

-- read_text, all of it open to computation
unfoldable pub outcome_of : List ℕ → Outcome Content
unfolding refusal ceiling_tests several kinds row_tests literal_tests operand_tests is_digit may_grow read_on read_number strip prepend split_line tested further onward fits owns reset_word words line_tests ends read_lines first_line counts_of count_tests header_tests read_opened ending_of read_text
outcome_of t = read_text t

-- each text has its outcome
abbrev pub AsSaid : List Case → Type 0
AsSaid cs = map (λ (c : Case). outcome_of (bytes c.text)) cs ≡ map (λ (c : Case). c.outcome) cs

-- T, H, K, S, E and C, the latch without a start value (request 1) and the starred refusal; then the two cases without a star
pub cases : List Case
cases =
    says "aag 1 0 1 1 0/2 3/2/" 0 1 1 0 (3 ∷ 0 ∷ 2 ∷ [])
    ∷ says "aag 3 1 1 1 1/2/4 7/4/6 3 5/" 1 1 1 1 (7 ∷ 0 ∷ 4 ∷ 3 ∷ 5 ∷ [])
    ∷ says "aag 2 1 0 1 1/2/4/4 2 3/" 1 0 1 1 (4 ∷ 2 ∷ 3 ∷ [])
    ∷ says "aag 3 0 2 1 1/2 4/4 2 1/6/6 4 2/" 0 2 1 1 (4 ∷ 0 ∷ 2 ∷ 1 ∷ 6 ∷ 4 ∷ 2 ∷ [])
    ∷ says "aag 1 0 1 1 0/2 1/2/" 0 1 1 0 (1 ∷ 0 ∷ 2 ∷ [])
    ∷ says "aag 5 0 2 1 3/2 3/4 11/10/6 4 3/8 5 2/10 9 7/" 0 2 1 3 (3 ∷ 0 ∷ 11 ∷ 0 ∷ 10 ∷ 4 ∷ 3 ∷ 5 ∷ 2 ∷ 9 ∷ 7 ∷ [])
    ∷ says "aag 1 0 1 0 0/2 2 2/" 0 1 0 0 (2 ∷ 2 ∷ [])
    ∷ "aag 2 1 0 0 1/2/4 4 2/" is 7
    ∷ says "aag 0 0 0 0 0/" 0 0 0 0 []
    ∷ "aag 2 1 0 0 1/2/4 6 2/" is 6
    ∷ []

pub bench : AsSaid cases
unfolding outcome_of bytes cases
bench = refl

-- Further reading cases: each refusal, which comes first where two would do, and what is read all the same. Assumes nothing.
use Rattle.std.specs.Prelude.{◌≡◌, refl, List, [], ◌∷◌, ◌++◌, map, ℕ, replicate}
use Prim.Native.String.{String}
use Rattle.circuit.specs.declared.Counts.{Counts}
use Rattle.circuit.specs.Table.{several, kinds, width}
use Rattle.text.specs.Decimal.{digits, decimal}
use Rattle.text.specs.Line.{ended_line}
use Rattle.text.specs.Outcome.{Outcome, accepted, refused}
use Rattle.text.specs.Text.{Content, further_numbers, head_numbers, shown, numbers, line_of, write_rows, write_opened, write_text}
use Rattle.text.specs.Calls.{into_table, read_into, zeros}
use Rattle.text.specs.Bench.{bytes, Case, ◌is◌, shows, says, outcome_of, AsSaid}

-- I, L, O, A, B and C
abbrev pub guarded : ℕ → ℕ → ℕ → ℕ → ℕ → ℕ → Counts
guarded i l o a b c = record { inputs = i; latches = l; lamps = o; gates = a; bads = b; constraints = c }

pub edges : List Case
edges =
    "" is 2
    ∷ "aag 0 0 0 0 0" is 2
    ∷ "aag 0 0 0 0/" is 2
    ∷ "aag 257 257 0 0/" is 2
    ∷ "aag 0 0 0 0 0 0 0 0 0 0/" is 2
    ∷ "aag 0 0 0 0 0 0 0 0 00/" is 2
    ∷ "aag  0 0 0 0 0/" is 2
    ∷ "aag 00 0 0 0 0/" is 2
    ∷ "aag 0 0 0 0 0 /" is 2
    ∷ "aag 100000 0 0 0 0/" is 2
    ∷ "aag 0 0 0 0 0\r" is 2
    ∷ "aag 0 0 0 0 0\r\r/" is 2
    ∷ "aag 0 0 0 0\r/" is 2
    ∷ "aig 0 0 0 0 0/" is 2
    ∷ "aag 99999 0 0 0 0/" is 3
    ∷ "aag 257 257 0 0 0/" is 3
    ∷ "aag 513 0 513 0 0/" is 3
    ∷ "aag 0 0 0 65 0/" is 3
    ∷ "aag 3328 0 0 0 3328/" is 3
    ∷ "aag 1 0 0 0 0/" is 3
    ∷ "aag 0 0 0 0 0 65/" is 3
    ∷ "aag 0 0 0 0 0 0 65/" is 3
    ∷ "aag 0 0 0 0 0 0 0 1/" is 3
    ∷ "aag 0 0 0 0 0 0 0 0 1/" is 3
    ∷ "aag 1 1 0 0 0/" is 4
    ∷ "aag 1 1 0 0 0/2" is 4
    ∷ "aag 1 1 0 0 0/2 2/" is 4
    ∷ "aag 1 1 0 0 0//" is 4
    ∷ "aag 1 1 0 0 0/c/" is 4
    ∷ "aag 1 0 1 0 0/4/" is 4
    ∷ "aag 1 0 1 0 0/2 3 0 0/" is 4
    ∷ "aag 1 0 1 0 0/2 100000/" is 4
    ∷ "aag 1 0 0 0 1/2 0/" is 4
    ∷ "aag 1 1 0 0 0\r/2/" is 4
    ∷ "aag 1 1 0 0 0/2\r/" is 4
    ∷ "aag 1 1 0 0 0\r/2\r" is 4
    ∷ "aag 2 2 0 0 0\r/2\r/4/" is 4
    ∷ "aag 0 0 0 1 0 1/0/" is 4
    ∷ "aag 0 0 0 0 0 0 1/" is 4
    ∷ "aag 1 1 0 0 0/4/" is 5
    ∷ "aag 1 1 0 0 0/3/" is 5
    ∷ "aag 1 0 1 0 0/4 9 9/" is 5
    ∷ "aag 1 0 1 0 0/2 4 9/" is 6
    ∷ "aag 0 0 0 1 0/2/" is 6
    ∷ "aag 0 0 0 0 0 1/2/" is 6
    ∷ "aag 0 0 0 0 0 0 1/2/" is 6
    ∷ "aag 1 0 0 0 1/2 2 4/" is 6
    ∷ "aag 1 0 0 0 1/2 0 2/" is 7
    ∷ "aag 1 0 1 0 0/2 3 3/" is 8
    ∷ "aag 1 0 1 1 0/2 3 3/9/" is 8
    ∷ "aag 2 0 2 0 0/2 3/4 5 2/" is 8
    ∷ "aag 2 1 1 0 0/2/4 5 2/" is 8
    ∷ "aag 1 0 1 0 0/4 3 4/" is 5
    ∷ "aag 0 0 0 0 0/c" is 9
    ∷ "aag 0 0 0 0 0/c\r/" is 9
    ∷ "aag 0 0 0 0 0\r/c/" is 9
    ∷ "aag 0 0 0 0 0\r/c\r" is 9
    ∷ "aag 0 0 0 0 0/c x/" is 9
    ∷ "aag 0 0 0 0 0//" is 9
    ∷ "aag 0 0 0 0 0/i0 a/" is 9
    ∷ says "aag 0 0 0 0 0/c/" 0 0 0 0 []
    ∷ says "aag 0 0 0 0 0/c/anything" 0 0 0 0 []
    ∷ says "aag 0 0 0 0 0\r/" 0 0 0 0 []
    ∷ says "aag 0 0 0 0 0\r/c\r/any/thing" 0 0 0 0 []
    ∷ says "aag 1 0 1 1 0\r/2 3\r/2\r/" 0 1 1 0 (3 ∷ 0 ∷ 2 ∷ [])
    ∷ says "aag 1 0 1 0 0/2 3 0/" 0 1 0 0 (3 ∷ 0 ∷ [])
    ∷ says "aag 2 0 2 0 0/2 3 2/4 5 4/" 0 2 0 0 (3 ∷ 2 ∷ 5 ∷ 2 ∷ [])
    ∷ says "aag 1 0 0 0 1/2 0 1/" 0 0 0 1 (0 ∷ 1 ∷ [])
    ∷ says "aag 1 1 0 0 0 0/2/" 1 0 0 0 []
    ∷ says "aag 1 1 0 0 0 0 0 0 0/2/" 1 0 0 0 []
    ∷ shows "aag 1 1 0 0 0 1/2/3/" (guarded 1 0 0 0 1 0) (3 ∷ [])
    ∷ shows "aag 1 1 0 0 0 0 1/2/3/" (guarded 1 0 0 0 0 1) (3 ∷ [])
    ∷ shows "aag 3 1 1 1 1 1 2 0/2/4 6/2/3/4/5/6 2 4/" (guarded 1 1 1 1 1 2) (6 ∷ 0 ∷ 2 ∷ 3 ∷ 4 ∷ 5 ∷ 2 ∷ 4 ∷ [])
    ∷ shows "aag 1 1 0 0 0 1 1 0 0/2/2/3/" (guarded 1 0 0 0 1 1) (2 ∷ 3 ∷ [])
    ∷ []

pub edge_cases : AsSaid edges
unfolding outcome_of bytes edges
edge_cases = refl

-- what is read, written again: B and C up to the last that is not 0, never J or F
unfoldable pub again : Outcome Content → List ℕ
unfolding several kinds width further_numbers head_numbers shown numbers ended_line decimal digits line_of write_rows write_opened
again o = elim o [ accepted c ↦ write_text c.counts c.words | refused n ↦ [] ]

pub written_again : map (λ (t : String). again (outcome_of (bytes t))) (
    "aag 1 1 0 0 0 0 0 0 0/2/" ∷ "aag 1 1 0 0 0 1 0 0/2/3/" ∷ "aag 1 1 0 0 0 0 1/2/3/" ∷ "aag 3 1 1 1 1 1 2 0/2/4 6/2/3/4/5/6 2 4/" ∷ []
    ) ≡ map bytes ("aag 1 1 0 0 0/2/" ∷ "aag 1 1 0 0 0 1/2/3/" ∷ "aag 1 1 0 0 0 0 1/2/3/" ∷ "aag 3 1 1 1 1 1 2/2/4 6/2/3/4/5/6 2 4/" ∷ [])
unfolding outcome_of bytes again
written_again = refl

-- 60,001 bytes are refused with 1, though the first line is ill-formed too, and 60,000 are read
pub longest_text : (outcome_of (replicate 60001 97) ≡ refused 1)
    × (outcome_of (bytes "aag 0 0 0 0 0/c/" ++ replicate 59984 97) ≡ accepted (record { counts = zeros; words = [] }))
unfolding outcome_of bytes
longest_text = (refl, refl)

-- a lent table without a word is too short for a lamp, and 9 comes before 10
pub short_table : map (λ (t : String). read_into (bytes t) []) ("aag 0 0 0 1 0/0/" ∷ "aag 0 0 0 1 0/0/x" ∷ []) ≡ refused 10 ∷ refused 9 ∷ []
unfolding outcome_of bytes into_table
short_table = refl

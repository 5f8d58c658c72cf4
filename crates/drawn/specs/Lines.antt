-- The text of a drawing (specification, 4.11, 4.15): as the plain text (4), with own literals as written. Its refusals are
-- 1, 2, 3, line by line 4, 6 and 8, then 20, 21, 22, then 9, then 10. Assumes nothing.
use Rattle.std.specs.Prelude.{◌≡◌, List, [], ◌∷◌, ◌++◌, ℕ, suc, ◌+◌, ◌*◌, leb, length, get_or}
use Rattle.three.specs.Lists.{over}
use Rattle.circuit.specs.declared.Counts.{Counts}
use Rattle.circuit.specs.Refusal.{Test, ◌or◌}
use Rattle.circuit.specs.Table.{variables, table_length, Kind, kinds, literal_tests}
use Rattle.text.specs.Part.{got, ill}
use Rattle.text.specs.Outcome.{Outcome, refused, tested, further, onward, number_of, leaves}
use Rattle.text.specs.Text.{fits, words, ends, Lines, read_lines, header, counts_of, count_tests, ending_of}
use Rattle.text.specs.Calls.{zeros}
use Rattle.drawn.specs.Drawing.{Drawing, drawing_tests, table, renumbered}

-- 4, then 6 and 8 for a line's numbers; `most` is the largest literal. An own literal is not judged here.
unfoldable pub any_tests : ℕ → Kind → List ℕ → List Test
any_tests most k ns = fits k (length ns) or 4 ∷ literal_tests most k (words k ns)

-- 2, then 3: as in the plain text, but that M is at most 4,095 and at least I + L + A
unfoldable pub any_header_tests : List ℕ → List Test
any_header_tests ns =
    count_tests ns ++ (leb (get_or ns 0 0) 4095 or 3 ∷ leb (variables (counts_of ns)) (get_or ns 0 0) or 3 ∷ [])

-- the lines behind the first: M and the counts are the first line's
abbrev pub body_of : List ℕ → ℕ → Counts → List ℕ → Outcome Lines
body_of ending most c rest = read_lines ending (any_tests (2 * most + 1)) (kinds c) rest

-- the drawing that the lines make
abbrev pub drawing : ℕ → Counts → Lines → Drawing
drawing most c l = record { most = most; counts = c; owns = l.owns; words = l.words }

-- 20, 21 and 22 after all lines, then 9
unfoldable pub after_tests : List ℕ → Drawing → List ℕ → List Test
after_tests ending d rest = drawing_tests d ++ (ends ending rest or 9 ∷ [])

unfoldable pub read_drawing : List ℕ → ℕ → Counts → List ℕ → Outcome Drawing
read_drawing ending most c rest =
    onward (drawing most c) (further (λ l. after_tests ending (drawing most c l) l.rest) (body_of ending most c rest))

-- a text whose lines have this ending
unfoldable pub read_any_ended : List ℕ → List ℕ → Outcome Drawing
read_any_ended ending t = tested (leb (length t) 60000 or 1 ∷ []) (elim (header ending t) [
  | ill ↦ refused 2
  | got ns rest ↦ tested (any_header_tests ns) (read_drawing ending (get_or ns 0 0) (counts_of ns) rest)
])

-- every line has the first one's ending
unfoldable pub read_any : List ℕ → Outcome Drawing
read_any t = read_any_ended (ending_of t) t

-- 10 where the lent table is too short for the words, or the lent list for M + 1
unfoldable pub room_tests : List ℕ → List ℕ → Drawing → List Test
room_tests words names d = leb (table_length d.counts) (length words) or 10 ∷ leb (suc d.most) (length names) or 10 ∷ []

unfoldable pub read_any_into : List ℕ → List ℕ → List ℕ → Outcome Drawing
read_any_into text words names = further (room_tests words names) (read_any text)

-- What is left by an outcome: the number, the counts, M, and both buffers. A refusal changes no word; words beyond stay.
pub record LeftBy (o : Outcome Drawing) (words names : List ℕ) (number : ℕ) (counts : Counts) (most : ℕ) (words' names' : List ℕ) : Type 0 where
  pub answers : number ≡ number_of o
  pub returns : counts ≡ leaves (λ d. d.counts) zeros o
  pub most_is : most ≡ leaves (λ d. d.most) 0 o
  pub fills : words' ≡ leaves (λ d. over (table d) words) words o
  pub renumbers : names' ≡ leaves (λ d. over (renumbered d) names) names o

-- The contract of the reader for any order
abbrev pub ReadingAny : (text words names : List ℕ) (number : ℕ) (counts : Counts) (most : ℕ) (words' names' : List ℕ) → Type 0
ReadingAny text words names number counts most words' names' = LeftBy (read_any_into text words names) words names number counts most words' names'

-- What the reading of a drawing's lines answers: arrays and places in place of lists; nothing here has to be believed. Assumes nothing.
use Rattle.std.specs.Prelude.{◌≡◌, List, [], ◌++◌, ℕ, ◌+◌, ◌≤◌, ◌<◌, length, take, Result}
use Rattle.circuit.specs.declared.Counts.{Counts}
use Rattle.circuit.specs.declared.Refusal.{Refusal}
use Rattle.circuit.specs.Answer.{answered, answer_or}
use Rattle.circuit.specs.Table.{variables, table_length, Kind, width, kinds}
use Rattle.text.specs.Outcome.{Outcome, accepted, onward}
use Rattle.text.specs.OutcomeInCode.{after}
use Rattle.text.specs.Text.{shown_own, Lines, read_lines}
use Rattle.lines.specs.LinesInCode.{from}
use Rattle.drawn.specs.Lines.{any_tests}
use Rattle.listing.specs.declared.Progress.{Progress}

-- how many own literals, and how many words, a line of a kind gives
unfoldable pub shown_by : Kind → ℕ
shown_by k = length (shown_own k [])

unfoldable pub worded : Kind → ℕ
worded k = width k

-- Where the reading stands: the position; in each list how many are filled; and the lists
pub record Stand : Type 0 where
  pub at : ℕ
  pub line : ℕ
  pub word : ℕ
  pub owns : List ℕ
  pub words : List ℕ

abbrev pub stand : ℕ → ℕ → ℕ → List ℕ → List ℕ → Stand
stand at line word owns words = record { at = at; line = line; word = word; owns = owns; words = words }

-- where lines are read up to, and what is listed; beside a refusal no place is said
abbrev pub place_of : Result Progress Refusal → Progress
place_of r = answer_or (record { at = 0; line = 0; word = 0 }) r

abbrev pub reached : Result Progress Refusal → List ℕ → List ℕ → Stand
reached r owns words = stand (place_of r).at (place_of r).line (place_of r).word owns words

-- what is listed, in front of the lines that are left
abbrev pub behind : List ℕ → List ℕ → Lines → Lines
behind os ws l = record { owns = os ++ l.owns; words = ws ++ l.words; rest = l.rest }

-- what is read altogether where the lines ks are left
unfoldable pub whole : List ℕ → List ℕ → ℕ → List Kind → Stand → Outcome Lines
whole ending text most ks s =
    onward (behind (take s.line s.owns) (take s.word s.words)) (read_lines ending (any_tests most) ks (from text s.at))

-- Room for so many own literals and words more
pub record Listable (text : List ℕ) (most a b : ℕ) (s : Stand) : Type 0 where
  pub within : s.at ≤ length text
  pub low : most < 8192
  pub owns_room : s.line + a ≤ length s.owns
  pub words_room : s.word + b ≤ length s.words

-- Lines that stand in front of any others are listed: their refusal, or else the others decide; and the lists have grown by so many
pub record Listed (ending text : List ℕ) (most : ℕ) (lines : List Kind → List Kind) (a b number : ℕ) (s t : Stand) : Type 0 where
  pub says : (ks : List Kind) → whole ending text most (lines ks) s ≡ after number (whole ending text most ks t)
  pub within : t.at ≤ length text
  pub owns_long : length t.owns ≡ length s.owns
  pub words_long : length t.words ≡ length s.words
  pub line : number ≡ 0 → t.line ≡ s.line + a
  pub word : number ≡ 0 → t.word ≡ s.word + b

-- All lines of a circuit
pub record BodyListed (ending text : List ℕ) (at : ℕ) (c : Counts) (most : ℕ) (owns words : List ℕ) (r : Result Progress Refusal) (owns' words' : List ℕ) : Type 0 where
  pub says : read_lines ending (any_tests most) (kinds c) (from text at) ≡ after (answered r) (accepted (record { owns = take (place_of r).line owns'; words = take (place_of r).word words'; rest = from text (place_of r).at }))
  pub within : (place_of r).at ≤ length text
  pub owns_long : length owns' ≡ length owns
  pub words_long : length words' ≡ length words
  pub line : answered r ≡ 0 → (place_of r).line ≡ variables c
  pub word : answered r ≡ 0 → (place_of r).word ≡ table_length c

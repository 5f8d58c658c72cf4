-- What the functions of the reader answer: positions in place of the texts that are left; nothing here has to be believed. Assumes nothing.
use Rattle.std.specs.Prelude.{◌≡◌, Bool, true, false, List, [], ◌∷◌, ◌++◌, ℕ, ◌+◌, ◌*◌, ◌≤◌, ◌<◌, length, get_or, Result, Ok, Err}
use Rattle.std.proofs.lemmas.List.Edits.{sets}
use Rattle.circuit.specs.declared.Counts.{Counts}
use Rattle.circuit.specs.Table.{Kind, input, latch, gate, several, kinds, literal, literals}
use Rattle.circuit.specs.RulesInCode.{Bounded}
use Rattle.circuit.specs.declared.Refusal.{Refusal}
use Rattle.circuit.specs.Refusal.{refusal}
use Rattle.circuit.specs.Answer.{number_of, answered, answer_or}
use Rattle.reader.specs.declared.Body.{Body}
use Rattle.reader.specs.declared.Place.{Place}
use Rattle.text.specs.Part.{got, ill}
use Rattle.text.specs.Line.{strip}
use Rattle.text.specs.Outcome.{Outcome, accepted, refused, onward, leaves}
use Rattle.text.specs.OutcomeInCode.{after}
use Rattle.text.specs.Text.{Lines, words, line_tests, read_opened}
use Rattle.lines.specs.declared.read_line.ReadLine.{ReadLine}
use Rattle.lines.specs.LinesInCode.{from, numbers_of}

-- the text opens with these bytes
unfoldable pub opened : List ℕ → List ℕ → Bool
opened opening text = elim (strip opening text) [ got u r ↦ true | ill ↦ false ]

-- what reads lines of some kinds, one for each
abbrev pub Reads : Type 0
Reads = List Kind → List ℕ → Outcome Lines

-- ---- the first pass

-- the text that lines leave
unfoldable pub left : Outcome Lines → Outcome (List ℕ)
left o = onward (λ l. l.rest) o

-- Lines judged that stand in front of any others: their refusal, or else the others decide
pub record LinesJudged (read : Reads) (text : List ℕ) (at : ℕ) (lines : List Kind → List Kind) (j : Result ℕ Refusal) : Type 0 where
  pub says : (ks : List Kind) → left (read (lines ks) (from text at)) ≡ after (answered j) (left (read ks (from text (answer_or 0 j))))
  pub within : answer_or 0 j ≤ length text

-- A line of a text read by the code: its refusal, or else the lines behind it, with its words in front of theirs, decide
pub record LineShown (read : ℕ → Reads) (text : List ℕ) (at : ℕ) (k : Kind) (l : ReadLine) : Type 0 where
  pub adds : Lines → Lines
  pub rest : (o : Lines) → (adds o).rest ≡ o.rest
  pub words : (o : Lines) → (adds o).words ≡ words k (numbers_of l) ++ o.words
  pub says : (most : ℕ) (ks : List Kind) → read most (k ∷ ks) (from text at) ≡ after (refusal (line_tests most k (numbers_of l))) (onward adds (read most ks (from text l.next)))
  pub within : l.next ≤ length text

-- the lines of a circuit in front of any others
abbrev pub kinds_then : Counts → List Kind → List Kind
kinds_then c ks =
    several input 2 c.inputs
    (several latch (2 + 2 * c.inputs) c.latches
    (several (λ own. literal) 0 (literals c) (several gate (2 + 2 * c.inputs + 2 * c.latches) c.gates ks)))

-- what lines of a text are read as, and their words
unfoldable pub lines_of : Reads → List Kind → List ℕ → Lines
lines_of read ks t = leaves (λ l. l) (record { owns = []; words = []; rest = [] }) (read ks t)

abbrev pub body_words : Reads → List Kind → List ℕ → List ℕ
body_words read ks t = (lines_of read ks t).words

-- The text is read, and its body starts at `at`
pub record BodyAt (opening ending : List ℕ) (read : Counts → Reads) (text : List ℕ) (c : Counts) (at : ℕ) : Type 0 where
  pub bounded : Bounded c
  pub within : at ≤ length text
  pub accepts : read c (kinds c) (from text at) ≡ accepted (lines_of (read c) (kinds c) (from text at))
  pub reads : read_opened opening ending read text ≡ accepted (record { counts = c; words = body_words (read c) (kinds c) (from text at) })

-- A text judged
abbrev pub TextJudged : List ℕ → List ℕ → (Counts → Reads) → List ℕ → Result Body Refusal → Type 0
TextJudged opening ending read text (Err r) = read_opened opening ending read text ≡ refused (number_of r)
TextJudged opening ending read text (Ok body) = BodyAt opening ending read text body.counts body.at

-- ---- the second pass

-- Words of 16 bits, and a table with room for them from word p on
pub record WordsFit (ws : List ℕ) (p : ℕ) (table : List ℕ) : Type 0 where
  pub small : (i : ℕ) → get_or ws i 0 < 65536
  pub room : p + length ws ≤ length table

-- Where the second pass stands: the lines left, the position of the first, the word of the table that is next, and the table
pub record Stand : Type 0 where
  pub lines : List Kind
  pub at : ℕ
  pub word : ℕ
  pub table : List ℕ

abbrev pub stand : List Kind → ℕ → ℕ → List ℕ → Stand
stand ks at p table = record { lines = ks; at = at; word = p; table = table }

-- the words left
abbrev pub words_left : Reads → List ℕ → Stand → List ℕ
words_left read text s = body_words read s.lines (from text s.at)

-- Nothing refuses the lines left, and there is room for their words
pub record Fillable (read : Reads) (text : List ℕ) (s : Stand) : Type 0 where
  pub within : s.at ≤ length text
  pub accepts : read s.lines (from text s.at) ≡ accepted (lines_of read s.lines (from text s.at))
  pub room : s.word + length (words_left read text s) ≤ length s.table

-- The pass has come from s to t: what is left at t makes the table what it becomes from s
pub record Filled (read : Reads) (text : List ℕ) (s t : Stand) : Type 0 where
  pub left : Fillable read text t
  pub long : length t.table ≡ length s.table
  pub same : sets t.table t.word (words_left read text t) ≡ sets s.table s.word (words_left read text s)

-- Lines of one kind, the first with the literal own, stand at a place, in front of others of a body that nothing refuses
pub record KindFillable (read : Counts → Reads) (text : List ℕ) (kind : ℕ → Kind) (own n : ℕ) (p : Place) (table : List ℕ) : Type 0 where
  pub counts : Counts
  pub bounded : Bounded counts
  pub behind : List Kind
  pub all : Fillable (read counts) text (stand (several kind own n behind) p.at p.word table)

-- and the pass has come to the others
abbrev pub KindFilled : (read : Counts → Reads) (text : List ℕ) (kind : ℕ → Kind) (own n : ℕ) (p : Place) (table : List ℕ) → Place → List ℕ → Type 0
KindFilled read text kind own n p table q table' =
    (f : KindFillable read text kind own n p table) → Filled (read f.counts) text (stand (several kind own n f.behind) p.at p.word table) (stand f.behind q.at q.word table')

-- Reading a step at a time, in the order of the refusals: what stops it, what lets it go on, and what it accepted. Assumes nothing.
use mathlib.Core.Path.{◌≡◌, ◌∙◌}
use mathlib.Core.Bool.{true, false}
use mathlib.Core.List.{List, [], ◌∷◌}
use Prim.Native.Nat.{ℕ, suc, ◌≤◌, ◌<◌}
use native.Mathlib.Omega.{arith}
use borrow.Author.Tests.{leb-true, le-leb, lt-leb}
use lib.Dec.{leb}
use lib.ListN.{length}
use Rattle.circuit.specs.declared.Counts.{Counts}
use Rattle.circuit.specs.Refusal.{Test, ◌or◌, refusal}
use Rattle.circuit.specs.RulesInCode.{Passed}
use Rattle.circuit.specs.Table.{ceiling_tests, Kind, input, latch, gate, literal, kinds, row_tests, literal_tests, operand_tests}
use Rattle.circuit.proofs.Refusals.{Numbered, stops, past, none}
use Rattle.text.specs.Part.{got, ill}
use Rattle.text.specs.Line.{read_line}
use Rattle.text.specs.Outcome.{Outcome, accepted, refused, tested, further, onward}
use Rattle.text.specs.Text.{magic, in_front, line_tests, ends, Lines, read_lines, first_line, counts_of, count_tests, header_tests, Content, read_opened, ending_of, read_text}
use Rattle.text.proofs.Parts.{by_part}
use Rattle.text.proofs.Outcomes.{tested_stops, tested_past, refused_accepted, tested_accepted, further_accepted, onward_accepted}

-- ---- 4 to 8, line by line

module _ (ending : List ℕ) (tests : Kind → List ℕ → List Test) (k : Kind) (ks : List Kind) (t : List ℕ) where
  pub line_ill : read_line ending t ≡ ill → read_lines ending tests (k ∷ ks) t ≡ refused 4
  unfolding read_lines
  line_ill e = rw (read_lines, e)

  module _ {ns rest : List ℕ} (e : read_line ending t ≡ got ns rest) where
    pub line_stops : {n : ℕ} → suc n ≡ refusal (tests k ns) → read_lines ending tests (k ∷ ks) t ≡ refused (suc n)
    unfolding read_lines
    line_stops h = rw (read_lines, e) (tested_stops (tests k ns) _ h)

    pub line_fits : 0 ≡ refusal (tests k ns) → read_lines ending tests (k ∷ ks) t ≡ onward (in_front k ns) (read_lines ending tests ks rest)
    unfolding read_lines
    line_fits h = rw (read_lines, e) (tested_past (tests k ns) _ h)

  -- A first line that is read, and the lines after it
  pub record LineRead (l : Lines) : Type 0 where
    pub numbers : List ℕ
    pub behind : List ℕ
    pub others : Lines
    pub split : read_line ending t ≡ got numbers behind
    pub passes : Passed (tests k numbers)
    pub on : read_lines ending tests ks behind ≡ accepted others
    pub gives : in_front k numbers others ≡ l

  pub line_accepted : {l : Lines} → ((ns : List ℕ) → Numbered (tests k ns)) → read_lines ending tests (k ∷ ks) t ≡ accepted l → LineRead l
  unfolding read_lines
  line_accepted n a = by_part (read_line ending t)
      (λ ns rest e.
      let p = tested_accepted (tests k ns) _ (n ns) (rw (read_lines, e) at a) in
      let q = onward_accepted (in_front k ns) (read_lines ending tests ks rest) p.1 in
      record { numbers = ns; behind = rest; others = q.0; split = e; passes = p.0; on = q.1; gives = q.2 })
      (λ e. absurd (refused_accepted (rw (read_lines, e) at a)))

pub line_numbered : (most : ℕ) (k : Kind) (ns : List ℕ) → Numbered (line_tests most k ns)
unfolding line_tests row_tests literal_tests operand_tests
line_numbered most (input own) ns = omega arith
line_numbered most (latch own) ns = omega arith
line_numbered most (gate own) ns = omega arith
line_numbered most literal ns = omega arith

-- ---- 9, after the last line

abbrev pub then_ends : List ℕ → Outcome Lines → Outcome Lines
then_ends ending o = further (λ l. ends ending l.rest or 9 ∷ []) o

module _ (ending : List ℕ) {o : Outcome Lines} where
  pub lines_stop : {n : ℕ} → o ≡ refused n → then_ends ending o ≡ refused n
  unfolding further
  lines_stop e = rw e

  pub end_accepted : {l : Lines} → then_ends ending o ≡ accepted l → (o ≡ accepted l) × (ends ending l.rest ≡ true)
  end_accepted e = let p = further_accepted (λ (l : Lines). ends ending l.rest or 9 ∷ []) o (λ l. omega arith) e in (p.0, p.1.0)

  module _ {l : Lines} (e : o ≡ accepted l) where
    pub end_stops : ends ending l.rest ≡ false → then_ends ending o ≡ refused 9
    unfolding further
    end_stops f = rw e (tested_stops _ (accepted l) (stops _ [] f))

    pub end_fits : ends ending l.rest ≡ true → then_ends ending o ≡ accepted l
    unfolding further
    end_fits f = rw e (tested_past _ (accepted l) (past _ [] f none))

-- ---- 1, 2 and 3

-- what the first line's numbers and the lines after it say
abbrev pub content : List ℕ → Lines → Content
content ns l = record { counts = counts_of ns; words = l.words }

-- what reads the lines of a circuit
abbrev pub Read : Type 0
Read = Counts → List Kind → List ℕ → Outcome Lines

pub opened_long : (opening ending : List ℕ) (read : Read) (t : List ℕ) → 60000 < length t → read_opened opening ending read t ≡ refused 1
unfolding read_opened
opened_long opening ending read t h = tested_stops _ _ (stops _ [] (lt-leb (length t) 60000 h))

pub text_long : (t : List ℕ) → 60000 < length t → read_text t ≡ refused 1
unfolding read_text
text_long t h = opened_long magic (ending_of t) _ t h

module _ (opening ending : List ℕ) (read : Read) (t : List ℕ) (short : length t ≤ 60000) where
  text_short : {o : Outcome Content} → tested (leb (length t) 60000 or 1 ∷ []) o ≡ o
  text_short = tested_past _ _ (past _ [] (le-leb (length t) 60000 short) none)

  pub header_ill : first_line opening ending t ≡ ill → read_opened opening ending read t ≡ refused 2
  unfolding read_opened
  header_ill e = text_short ∙ rw e

  module _ {ns rest : List ℕ} (e : first_line opening ending t ≡ got ns rest) where
    pub header_stops : {n : ℕ} → suc n ≡ refusal (header_tests ns) → read_opened opening ending read t ≡ refused (suc n)
    unfolding read_opened
    header_stops h = text_short ∙ rw e (tested_stops (header_tests ns) _ h)

    pub header_fits : 0 ≡ refusal (header_tests ns) → read_opened opening ending read t ≡ onward (content ns) (then_ends ending (read (counts_of ns) (kinds (counts_of ns)) rest))
    unfolding read_opened
    header_fits h = text_short ∙ rw e (tested_past (header_tests ns) _ h)

-- A first line that is read, and the body
pub record HeaderRead (opening ending : List ℕ) (read : Read) (t : List ℕ) (c : Content) : Type 0 where
  pub short : length t ≤ 60000
  pub numbers : List ℕ
  pub behind : List ℕ
  pub lines : Lines
  pub split : first_line opening ending t ≡ got numbers behind
  pub passes : Passed (header_tests numbers)
  pub on : read (counts_of numbers) (kinds (counts_of numbers)) behind ≡ accepted lines
  pub closed : ends ending lines.rest ≡ true
  pub gives : content numbers lines ≡ c

pub header_accepted : (opening ending : List ℕ) (read : Read) (t : List ℕ) {c : Content} → read_opened opening ending read t ≡ accepted c → HeaderRead opening ending read t c
unfolding read_opened header_tests count_tests ceiling_tests
header_accepted opening ending read t a =
    let s = tested_accepted (leb (length t) 60000 or 1 ∷ []) _ (omega arith) a in
    by_part (first_line opening ending t)
    (λ ns rest e.
    let p = tested_accepted (header_tests ns) _ (omega arith) (rw e at s.1) in
    let q = onward_accepted (content ns) (then_ends ending (read (counts_of ns) (kinds (counts_of ns)) rest)) p.1 in
    let z = end_accepted ending q.1 in
    record { short = leb-true (length t) 60000 s.0.0; numbers = ns; behind = rest; lines = q.0; split = e; passes = p.0; on = z.0; closed = z.1; gives = q.2 })
    (λ e. absurd (refused_accepted (rw e at s.1)))

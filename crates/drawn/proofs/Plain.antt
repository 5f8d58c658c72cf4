-- A text that the plain reader accepts is accepted here, with its counts and words. Assumes nothing.
use mathlib.Core.Path.{◌≡◌, refl, sym, ap, ◌∙◌}
use mathlib.Core.Bool.{true}
use mathlib.Core.Logic.{inl, inr}
use mathlib.Core.List.{List, [], ◌∷◌, ◌++◌}
use Prim.Native.Nat.{ℕ, ◌+◌, ◌*◌, ◌-◌, ◌/◌, ◌≤◌, ◌<◌}
use native.Mathlib.Omega.{arith}
use native.Mathlib.Decide.{ℕ_discrete}
use borrow.Author.Tests.{eqb-true, leb-true, le-leb}
use lib.Dec.{leb}
use lib.ListN.{get_or, length}
use Rattle.three.proofs.Lists.{by_test, every_at}
use Rattle.circuit.proofs.Legality.{legal}
use Rattle.circuit.specs.RulesInCode.{Passed, Legal}
use Rattle.circuit.specs.declared.Counts.{Counts}
use Rattle.circuit.specs.Table.{variables, top, table_length, Kind, input, latch, literal, gate, kinds, row_tests, literal_tests, operand_tests}
use Rattle.circuit.proofs.Refusals.{passed_refusal}
use Rattle.text.specs.Outcome.{accepted, onward}
use Rattle.text.specs.Text.{magic, owns, words, shown_own, line_tests, Lines, read_lines, counts_of, count_tests, header_tests, Content, ending_of, read_text}
use Rattle.text.proofs.Outcomes.{append_passed, accepted_same}
use Rattle.text.proofs.Heads.{head_passed, head_bounded}
use Rattle.text.proofs.Steps.{line_fits, line_accepted, line_numbered, header_accepted}
use Rattle.text.proofs.Endings.{describes}
use Rattle.drawn.specs.Depth.{deep, loopless}
use Rattle.drawn.specs.Drawing.{Drawing, leaves, lines, own, next_literal, single, left, right, left_source, right_source, drawing_tests}
use Rattle.drawn.specs.Meaning.{Uses, Leads, uses, through}
use Rattle.drawn.specs.Lines.{any_tests, any_header_tests, drawing, after_tests, read_any}
use Rattle.drawn.proofs.Proper.{Defined, constant, line, Owned, Proper, proper_passed}
use Rattle.drawn.proofs.Refused.{looped}
use Rattle.drawn.proofs.Reading.{text_fits, drawing_fits}
use Rattle.drawn.proofs.Dues.{dues, due_at}

-- ---- lines

plain_tests : (most : ℕ) (k : Kind) (ns : List ℕ) → Passed (line_tests most k ns) → Passed (any_tests most k ns)
unfolding line_tests any_tests row_tests literal_tests operand_tests words
plain_tests most (input own) ns p = (p.0, tt)
plain_tests most (latch own) ns p = (p.0, p.1.1)
plain_tests most literal ns p = (p.0, p.1.1)
plain_tests most (gate own) ns p = (p.0, (p.1.1.0, (p.1.1.1.0, tt)))

plain_own : (most : ℕ) (k : Kind) (ks : List Kind) (ns : List ℕ) → Passed (line_tests most k ns) → shown_own k ns ++ dues ks ≡ dues (k ∷ ks)
unfolding line_tests owns shown_own dues
plain_own most (input own) ks ns p = ap (λ (n : ℕ). n ∷ dues ks) (eqb-true (get_or ns 0 0) own p.1.0)
plain_own most (latch own) ks ns p = ap (λ (n : ℕ). n ∷ dues ks) (eqb-true (get_or ns 0 0) own p.1.0)
plain_own most literal ks ns p = refl
plain_own most (gate own) ks ns p = ap (λ (n : ℕ). n ∷ dues ks) (eqb-true (get_or ns 0 0) own p.1.0)

-- lines that the plain reader takes are taken here, and show the own literals that are due
plain_lines : (ending : List ℕ) (most : ℕ) (ks : List Kind) (t : List ℕ) {l : Lines} → read_lines ending (line_tests most) ks t ≡ accepted l
    → (read_lines ending (any_tests most) ks t ≡ accepted l) × (l.owns ≡ dues ks)
unfolding read_lines onward dues
plain_lines ending most [] t a = (a, sym (ap (λ (l : Lines). l.owns) (accepted_same a)))
plain_lines ending most (k ∷ ks) t a =
    let f = line_accepted ending (line_tests most) k ks t (line_numbered most k) a in
    let b = plain_lines ending most ks f.behind f.on in (
      line_fits ending (any_tests most) k ks t f.split (passed_refusal _ (plain_tests most k f.numbers f.passes)) ∙ rw b.0 (ap accepted f.gives),
      sym (ap (λ (l : Lines). l.owns) f.gives) ∙ ap (λ ls. shown_own k f.numbers ++ ls) b.1 ∙ plain_own most k ks f.numbers f.passes,
    )

-- ---- 20, 21 and 22

-- A drawing whose own literals are those due, and whose words are legal
module _ (d : Drawing) (most : d.most ≡ lines d) (due : (k : ℕ) → k < lines d → own d k ≡ 2 + 2 * k) (l : Legal d.counts d.words) where
  due_owned : Owned d
  due_owned = record {
    even = λ k h. omega (arith, due k h);
    large = λ k h. omega (arith, due k h);
    small = λ k h. omega (arith, due k h, most);
    apart = λ j k g h e. omega (arith, due k h, due j (omega arith), e);
  }

  due_defined : (x : ℕ) → x ≤ top d.counts → Defined d x
  due_defined x h = go (ℕ_discrete (x / 2) 0)
    where
      go : Dec (x / 2 ≡ 0) → Defined d x
      go (yes z) = constant z
      go (no n) = line (x / 2 - 1) (omega arith) (due (x / 2 - 1) (omega arith) ∙ omega arith)

  uses_below : (i k : ℕ) → i < d.counts.gates → Uses d i k → k < i
  uses_below i k h (f, inl e) = omega (arith, due (leaves d + k) (omega arith), l.left i h, e)
  uses_below i k h (f, inr e) = omega (arith, due (leaves d + k) (omega arith), l.right i h, e)

  leads_below : {i k : ℕ} → i < d.counts.gates → Leads d i k → k < i
  leads_below h (uses {i = i} {k = k} u) = uses_below i k h u
  leads_below h (through {i = i} {j = j} u m) = let a = uses_below i j h u in omega (arith, a, leads_below (omega (arith, a, h)) m)

  due_loopless : loopless (left_source d) (right_source d) d.counts.gates ≡ true
  due_loopless = by_test (loopless (left_source d) (right_source d) d.counts.gates)
      (λ e. e)
      (λ e. absurd (let f = looped d e in let z = leads_below f.1 f.2 in omega (arith, z)))

  due_proper : Proper d
  due_proper = record {
    owned = due_owned;
    next = λ i h. due_defined (next_literal d i) (l.next i h);
    singles = λ i h. due_defined (single d i) (l.literal i h);
    lefts = λ i h. due_defined (left d i) (omega (arith, l.left i h));
    rights = λ i h. due_defined (right d i) (omega (arith, l.right i h));
    shallow = λ i h. shallow i h;
  }
    where
      shallow : (i : ℕ) → i < d.counts.gates → deep (left_source d) (right_source d) d.counts.gates i ≤ d.counts.gates
      shallow i h = unfold loopless in leb-true (deep (left_source d) (right_source d) d.counts.gates i) d.counts.gates
          (every_at d.counts.gates (λ i. leb (deep (left_source d) (right_source d) d.counts.gates i) d.counts.gates) due_loopless i h)

-- ---- the text

plain_header : (ns : List ℕ) → Passed (header_tests ns) → Passed (any_header_tests ns)
unfolding any_header_tests
plain_header ns p =
    let q = head_passed ns p in
    let e : get_or ns 0 0 ≡ variables (counts_of ns) = q.1 in
    append_passed (count_tests ns) _ q.0 (le-leb (get_or ns 0 0) 4095 (omega (arith, e, head_bounded ns p)), (le-leb (variables (counts_of ns)) (get_or ns 0 0) (omega (arith, e)), tt))

same_legal : {c c' : Counts} {ws ws' : List ℕ} → c ≡ c' → ws ≡ ws' → Legal c' ws' → Legal c ws
same_legal e f l = rw (e, f) l

-- A plain text's drawing
pub record PlainDrawing (t : List ℕ) (c : Content) : Type 0 where
  pub drawn : Drawing
  pub reads : read_any t ≡ accepted drawn
  pub counts_same : drawn.counts ≡ c.counts
  pub words_same : drawn.words ≡ c.words
  pub most_same : drawn.most ≡ lines drawn
  pub due : (k : ℕ) → k < lines drawn → own drawn k ≡ 2 + 2 * k
  pub lawful : Legal drawn.counts drawn.words
  pub whole : length drawn.words ≡ table_length drawn.counts
  pub proper : Proper drawn

pub plain_accepted : (t : List ℕ) {c : Content} → read_text t ≡ accepted c → PlainDrawing t c
unfolding read_text read_any after_tests
plain_accepted t {c} a =
    let h = header_accepted magic (ending_of t) _ t a in
    let n : Counts = counts_of h.numbers in
    let e : get_or h.numbers 0 0 ≡ variables n = (head_passed h.numbers h.passes).1 in
    let b = plain_lines (ending_of t) (top n) (kinds n) h.behind h.on in
    let d : Drawing = drawing (get_or h.numbers 0 0) n h.lines in
    let counts_same : n ≡ c.counts = ap (λ (c : Content). c.counts) h.gives in
    let words_same : h.lines.words ≡ c.words = ap (λ (c : Content). c.words) h.gives in
    let lawful : Legal n h.lines.words = same_legal counts_same words_same (legal c.counts c.words (describes t a).legal) in
    let due : (k : ℕ) → k < variables n → get_or h.lines.owns k 0 ≡ 2 + 2 * k = λ k l. rw b.1 (due_at n k l) in
    let proper = due_proper d e due lawful in
    record {
      drawn = d;
      reads = text_fits (ending_of t) t h.short h.split (plain_header h.numbers h.passes) ∙ drawing_fits (ending_of t) (get_or h.numbers 0 0) n h.behind (rw e b.0) (append_passed (drawing_tests d) _ (proper_passed d proper) (h.closed, tt));
      counts_same = counts_same;
      words_same = words_same;
      most_same = e;
      due = due;
      lawful = lawful;
      whole = rw (counts_same, words_same) (describes t a).whole;
      proper = proper;
    }

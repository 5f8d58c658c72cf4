-- Which texts are accepted where lines have a given ending: exactly those that describe a circuit which 3, 10 and 11 do not refuse (specification, 4.8). Assumes nothing.
use mathlib.Core.Path.{◌≡◌, refl, ◌∙◌, ap}
use mathlib.Core.Bool.{true, false≢true}
use mathlib.Core.List.{List, [], ◌∷◌, ◌++◌}
use Prim.Native.Nat.{ℕ, ◌≤◌, ◌<◌}
use native.Mathlib.Omega.{arith}
use lib.ListN.{length, drop, length-append}
use Rattle.circuit.specs.declared.Counts.{Counts}
use Rattle.circuit.specs.Refusal.{refusal}
use Rattle.circuit.specs.RulesInCode.{Passed, Bounded}
use Rattle.circuit.specs.Table.{top, table_length, Kind, kinds, width, row_tests, table_tests, circuit_tests}
use Rattle.text.specs.Part.{got, ill}
use Rattle.text.specs.Line.{ended_line, strip}
use Rattle.text.specs.Outcome.{accepted, onward}
use Rattle.text.specs.Text.{magic, words, shown_own, line_tests, ends, Lines, read_lines, first_line, header, counts_of, Content, circuit_lines, read_ended}
use Rattle.text.proofs.Parts.{by_part}
use Rattle.circuit.proofs.Refusals.{passed_append, passed_refusal}
use Rattle.text.proofs.Outcomes.{append_passed, accepted_same}
use Rattle.text.proofs.Lines.{front_strip, line_split, split_line_lem, strip_front, Proper}
use Rattle.text.proofs.Heads.{Heads, heads_fit, head_bounded, head_shows}
use Rattle.text.proofs.Steps.{end_fits, line_fits, LineRead, line_accepted, header_fits, header_accepted, line_numbered}
use Rattle.text.proofs.Tables.{size, size_kinds, Owned, owned_kinds, Taken, taken, taken_refusal}
use Rattle.text.proofs.Spelling.{Spelled, Seen, spelled, seen, length_words, drop_words, rules_words}

-- A text with one line for each kind, in order, and these words; then the text r
pub data Says (ending r : List ℕ) : List Kind → List ℕ → List ℕ → Type 0 where
  stop : Says ending r [] [] r
  line : {k : Kind} {ks : List Kind} {all ws ns t : List ℕ} → Spelled ws k all ns → Says ending r ks ws t → Says ending r (k ∷ ks) all (ended_line ending ns ++ t)

-- The end of a text, or the comment line and anything
pub data Closing (ending : List ℕ) : List ℕ → Type 0 where
  done : Closing ending []
  noted : (t : List ℕ) → Closing ending ((99 ∷ ending) ++ t)

-- A text of a circuit, whose lines have this ending
pub record Describes (ending t : List ℕ) (c : Content) : Type 0 where
  pub short : length t ≤ 60000
  pub legal : 0 ≡ refusal (circuit_tests c.counts c.words)
  pub whole : length c.words ≡ table_length c.counts
  pub head : List ℕ
  pub heads : Heads c.counts head
  pub body : List ℕ
  pub text : t ≡ magic ++ (ended_line ending head ++ body)
  pub rest : List ℕ
  pub says : Says ending rest (kinds c.counts) c.words body
  pub closes : Closing ending rest

-- ---- what describes a circuit is read

says_read : {ending : List ℕ} → Proper ending → (most : ℕ) {r : List ℕ} {ks : List Kind} {ws t : List ℕ}
    → most < 100000 → Owned most ks → Says ending r ks ws t → Passed (table_tests most ks ws) → (os : List ℕ) × (read_lines ending (line_tests most) ks t ≡ accepted (record { owns = os; words = ws; rest = r }))
unfolding read_lines onward table_tests
says_read e most m o stop p = ([], refl)
says_read {ending} e most m o (line {k = k} {ks = ks} {all = all} {ws = ws} {ns = ns} {t = t} s r) p =
    let q = passed_append (row_tests most k all) (table_tests most ks (drop (width k) all)) p in
    let v : Seen most k all ws ns = seen m o.0 s q.0 in
    let others = says_read e most m o.1 r (rw (← v.gives, drop_words) at q.1) in (
      shown_own k ns ++ others.0,
      line_fits ending (line_tests most) k ks _ (line_split ending e 3 ns t v.shape.0 v.shape.1 v.shape.2) (passed_refusal _ v.passes)
          ∙ rw (others.1, v.gives),
    )

pub closing_ends : (ending : List ℕ) {r : List ℕ} → Closing ending r → ends ending r ≡ true
unfolding ends
closing_ends ending done = refl
closing_ends ending (noted t) = rw (ends, strip_front (99 ∷ ending) t)

pub header_back : (opening : List ℕ) {ending : List ℕ} → Proper ending → {c : Counts} {ns : List ℕ} → Heads c ns → Bounded c → (body : List ℕ)
    → first_line opening ending (opening ++ (ended_line ending ns ++ body)) ≡ got ns body
unfolding first_line
header_back opening {ending} proper {ns = ns} h b body = let f = heads_fit h b in rw (first_line, strip_front opening _) (line_split ending proper 9 ns body f.some f.few f.short)

pub described_header : {ending t : List ℕ} {c : Content} → Proper ending → (d : Describes ending t c) → header ending t ≡ got d.head d.body
described_header {c = c} proper d = rw d.text (header_back magic proper d.heads (taken c.counts c.words d.legal).bounded d.body)

pub described_read : {ending t : List ℕ} {c : Content} → Proper ending → Describes ending t c → read_ended ending t ≡ accepted c
unfolding onward
described_read {ending} {t} {c} proper d =
    let n : Counts = c.counts in
    let k : Taken n c.words = taken n c.words d.legal in
    let f = heads_fit d.heads k.bounded in
    header_fits magic ending (circuit_lines ending) t d.short (described_header proper d) (passed_refusal _ f.passes)
    ∙ rw (f.counts, end_fits ending (says_read proper (top n) (omega arith) (owned_kinds n) d.says k.rules).1 (closing_ends ending d.closes))
    (ap (λ (m : Counts). accepted (record { counts = m; words = c.words })) f.counts)

-- ---- what is read describes a circuit

-- a proper end
pub ends_closing : (ending t : List ℕ) → ends ending t ≡ true → Closing ending t
unfolding ends
ends_closing ending [] e = done
ends_closing ending (b ∷ t) e = by_part (strip (99 ∷ ending) (b ∷ t)) (λ u r f. rw (front_strip (99 ∷ ending) (b ∷ t) r f) (noted r)) (λ f. absurd (false≢true (rw (f, ends) at e)))

-- Lines that are read as l
record Body (ending : List ℕ) (most : ℕ) (ks : List Kind) (t : List ℕ) (l : Lines) : Type 0 where
  says : Says ending l.rest ks l.words t
  sized : length l.words ≡ size ks
  rules : Passed (table_tests most ks l.words)

body_line : {ending : List ℕ} {most : ℕ} {k : Kind} {ks : List Kind} {t : List ℕ} {l : Lines} (f : LineRead ending (line_tests most) k ks t l) → Body ending most ks f.behind f.others → Body ending most (k ∷ ks) t l
unfolding line_tests size table_tests
body_line {ending} {most} {k} {ks} f b =
    let ns : List ℕ = f.numbers in
    let p = f.passes in
    rw ((split_line_lem ending 3 f.split).text, ← f.gives) (record {
      says = line (spelled k ns f.others.words p.0 p.1.0) b.says;
      sized = simp (length-append, length_words) (omega arith);
      rules = rw (rules_words, drop_words) (append_passed (row_tests most k (words k ns)) (table_tests most ks f.others.words) p.1.1 b.rules);
    })

read_body : (ending : List ℕ) (most : ℕ) (ks : List Kind) (t : List ℕ) {l : Lines} → read_lines ending (line_tests most) ks t ≡ accepted l → Body ending most ks t l
unfolding read_lines size table_tests
read_body ending most [] t a = rw (← (accepted_same a)) (record { says = stop; sized = refl; rules = tt })
read_body ending most (k ∷ ks) t a = let f = line_accepted ending (line_tests most) k ks t (line_numbered most k) a in body_line f (read_body ending most ks f.behind f.on)

-- A first line that is read
pub header_text : (opening ending t : List ℕ) {ns r : List ℕ} → first_line opening ending t ≡ got ns r → (t ≡ opening ++ (ended_line ending ns ++ r)) × (length ns ≤ 9)
unfolding first_line
header_text opening ending t a = by_part (strip opening t)
    (λ u s e. let o = split_line_lem ending 9 (rw (first_line, e) at a) in (front_strip opening t s e ∙ ap (λ x. opening ++ x) o.text, o.few))
    (λ e. let z : ill ≡ got _ _ = rw (first_line, e) at a in let no : ◌≡◌ {A = ℕ} 0 1 = cc in absurd (omega arith))

pub read_describes : (ending t : List ℕ) {c : Content} → read_ended ending t ≡ accepted c → Describes ending t c
read_describes ending t a =
    let h = header_accepted magic ending (circuit_lines ending) t a in
    let n : Counts = counts_of h.numbers in
    let b = read_body ending (top n) (kinds n) h.behind h.on in
    let first = header_text magic ending t h.split in
    rw (← h.gives) (record {
      short = h.short;
      legal = taken_refusal (record { bounded = head_bounded h.numbers h.passes; long = omega (arith, size_kinds n); rules = b.rules });
      whole = b.sized ∙ size_kinds n;
      head = h.numbers;
      heads = head_shows h.numbers first.1 h.passes;
      body = h.behind;
      text = first.0;
      rest = h.lines.rest;
      says = b.says;
      closes = ends_closing ending _ h.closed;
    })

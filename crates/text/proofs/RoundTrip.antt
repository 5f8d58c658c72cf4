-- What is written is read back: a written text describes its circuit, so a call reads what a call wrote. Assumes nothing.
use mathlib.Core.Path.{◌≡◌, refl, ap}
use mathlib.Core.List.{List, [], ◌∷◌, ◌++◌}
use Prim.Native.Nat.{ℕ, ◌≤◌}
use native.Mathlib.Omega.{arith}
use borrow.Author.Tests.{leb-true}
use lib.ListN.{length, take, drop, length-drop, length-append}
use lib.Seq.{take-add, take_at, drop_at, length-take-le, take-append_seam}
use Rattle.three.specs.Lists.{over}
use Rattle.circuit.specs.declared.Counts.{Counts}
use Rattle.circuit.specs.Refusal.{Test, refusal, left_by as afterwards}
use Rattle.circuit.specs.Table.{top, table_length, Kind, input, latch, literal, gate, kinds, width, row_tests, table_tests, circuit_tests, literal_tests, operand_tests}
use Rattle.circuit.proofs.Refusals.{passed_append}
use Rattle.circuit.specs.RulesInCode.{Bounded, Passed}
use Rattle.text.specs.Outcome.{accepted}
use Rattle.text.specs.Text.{numbers, head_numbers, line_of, write_rows, write_opened, write_text, Content, read_text}
use Rattle.text.specs.Calls.{Reading, Writing}
use Rattle.text.proofs.Tables.{size, size_kinds, Due, Owned, owned_kinds, Taken, taken, taken_refusal}
use Rattle.text.proofs.Heads.{written_heads}
use Rattle.text.proofs.Grammar.{Says, stop, line, done, Describes}
use Rattle.text.proofs.Endings.{by_newline, described, describes}
use Rattle.text.proofs.Spelling.{Spelled, shown_spelled, input_line, lamp_line, gate_line}
use Rattle.text.proofs.Bound.{text_bound}
use Rattle.text.proofs.Answers.{read_fits, reading_accepted, write_legal}
use Rattle.text.specs.Line.{newline, line_text}

-- A line's words, in front of others, spell what is written where they keep the rules, keep the rules that they kept, and are written as they were
record Row (k : Kind) (ws rest : List ℕ) : Type 0 where
  spelled : (most : ℕ) → Due most k → Passed (row_tests most k ws) → Spelled rest k (take (width k) ws ++ rest) (numbers k ws)
  rules : (most : ℕ) → row_tests most k (take (width k) ws ++ rest) ≡ row_tests most k ws
  written : numbers k (take (width k) ws ++ rest) ≡ numbers k ws

row : (k : Kind) (ws rest : List ℕ) → width k ≤ length ws → Row k ws rest
unfolding numbers width row_tests literal_tests operand_tests
row (input own) ws rest w = record { spelled = λ most d p. input_line; rules = λ most. refl; written = refl }
row (latch own) [] rest w = absurd (omega arith)
row (latch own) (a ∷ []) rest w = absurd (omega arith)
row (latch own) (a ∷ r ∷ ws) rest w = record { spelled = λ most d p. shown_spelled own a r rest d.0 (leb-true r 2 p.1.0); rules = λ most. refl; written = refl }
row literal [] rest w = absurd (omega arith)
row literal (a ∷ ws) rest w = record { spelled = λ most d p. lamp_line; rules = λ most. refl; written = refl }
row (gate own) [] rest w = absurd (omega arith)
row (gate own) (a ∷ []) rest w = absurd (omega arith)
row (gate own) (a ∷ b ∷ ws) rest w = record { spelled = λ most d p. gate_line; rules = λ most. refl; written = refl }

written_says : (most : ℕ) (ks : List Kind) (ws : List ℕ) → Owned most ks → Passed (table_tests most ks ws) → size ks ≤ length ws
    → Says newline [] ks (take (size ks) ws) (write_rows line_of ks ws)
unfolding write_rows line_of size table_tests
written_says most [] ws o p h = stop
written_says most (k ∷ ks) ws o p h =
    let q = passed_append (row_tests most k ws) (table_tests most ks (drop (width k) ws)) p in
    rw take-add (line ((row k ws (take (size ks) (drop (width k) ws)) (omega arith)).spelled most o.0 q.0)
    (written_says most ks (drop (width k) ws) o.1 q.1 (simp length-drop (omega arith))))

-- words beyond the lines' are ignored
take_rules : (most : ℕ) (ks : List Kind) (ws : List ℕ) → size ks ≤ length ws → table_tests most ks (take (size ks) ws) ≡ table_tests most ks ws
unfolding table_tests size
take_rules most [] ws h = refl
take_rules most (k ∷ ks) ws h =
    let rest : List ℕ = take (size ks) (drop (width k) ws) in
    rw (take-add, (row k ws rest (omega arith)).rules most, drop_at (take (width k) ws) rest (width k) (length-take-le (width k) ws (omega arith)))
    (ap (λ (ts : List Test). row_tests most k ws ++ ts) (take_rules most ks (drop (width k) ws) (simp length-drop (omega arith))))

take_lines : (ks : List Kind) (ws : List ℕ) → size ks ≤ length ws → write_rows line_of ks (take (size ks) ws) ≡ write_rows line_of ks ws
unfolding write_rows line_of size
take_lines [] ws h = refl
take_lines (k ∷ ks) ws h =
    let rest : List ℕ = take (size ks) (drop (width k) ws) in
    rw (take-add, (row k ws rest (omega arith)).written, drop_at (take (width k) ws) rest (width k) (length-take-le (width k) ws (omega arith)))
    (ap (λ (t : List ℕ). line_text (numbers k ws) ++ t) (take_lines ks (drop (width k) ws) (simp length-drop (omega arith))))

-- nor do they matter to 3, 10 and 11
taken_words : (c : Counts) (table : List ℕ) → Taken c table → Taken c (take (table_length c) table)
taken_words c table k = record {
  bounded = k.bounded;
  long = omega (arith, length-take-le (table_length c) table k.long);
  rules = rw (← size_kinds c, take_rules (top c) (kinds c) table (omega (arith, size_kinds c))) k.rules;
}

-- and the other way: a table that opens with such words is not refused either
taken_table : (c : Counts) (table : List ℕ) → table_length c ≤ length table → Taken c (take (table_length c) table) → Taken c table
taken_table c table h k = record {
  bounded = k.bounded;
  long = h;
  rules = rw (← size_kinds c, take_rules (top c) (kinds c) table (omega (arith, size_kinds c))) at k.rules;
}

-- what a reader accepts: as many words as the counts take, and 3, 10 and 11 do not refuse them
pub record Kept (c : Content) : Type 0 where
  pub legal : 0 ≡ refusal (circuit_tests c.counts c.words)
  pub whole : length c.words ≡ table_length c.counts

-- what it leaves in a table: the words read stand in front, and 3, 10 and 11 do not refuse it
pub record Carries (c : Content) (table : List ℕ) : Type 0 where
  pub front : take (table_length c.counts) table ≡ c.words
  pub legal : 0 ≡ refusal (circuit_tests c.counts table)
  pub few : Bounded c.counts

pub kept_carries : {c : Content} → Kept c → (lent : List ℕ) → table_length c.counts ≤ length lent → Carries c (over c.words lent)
unfolding over
kept_carries {c} d lent h =
    let first = take_at c.words (drop (length c.words) lent) (table_length c.counts) d.whole in
    let k : Taken c.counts c.words = taken c.counts c.words d.legal in
    record {
      front = first;
      legal = taken_refusal (taken_table c.counts _ (simp (length-append, length-drop) (omega (arith, d.whole))) (rw first k));
      few = k.bounded;
    }

pub read_carries : (text : List ℕ) {c : Content} → read_text text ≡ accepted c → (lent : List ℕ) → table_length c.counts ≤ length lent → Carries c (over c.words lent)
read_carries text e lent h = let d = describes text e in kept_carries (record { legal = d.legal; whole = d.whole }) lent h

-- and the writer writes the words that were read
pub carries_written : {c : Content} {table : List ℕ} → Carries c table → write_text c.counts table ≡ write_text c.counts c.words
unfolding write_opened
carries_written {c} {table} k =
    let long : table_length c.counts ≤ length table = (taken c.counts table k.legal).long in
    rw (← k.front, ← size_kinds c.counts, take_lines (kinds c.counts) table (omega (arith, size_kinds c.counts)))

-- what the writer is given: the counts, and the words that belong to them
abbrev pub given : Counts → List ℕ → Content
given c table = record { counts = c; words = take (table_length c) table }

module _ (c : Counts) (table : List ℕ) (legal : 0 ≡ refusal (circuit_tests c table)) where
  pub written_describes : Describes newline (write_text c table) (given c table)
  unfolding write_opened
  written_describes =
      let k : Taken c table = taken c table legal in
      record {
        short = omega (arith, text_bound c table legal);
        legal = taken_refusal (taken_words c table k);
        whole = length-take-le (table_length c) table k.long;
        head = head_numbers c;
        heads = written_heads c;
        body = write_rows line_of (kinds c) table;
        text = refl;
        rest = [];
        says = rw (← size_kinds c) (written_says (top c) (kinds c) table (owned_kinds c) k.rules (omega (arith, size_kinds c)));
        closes = done;
      }

  pub round_trip : read_text (write_text c table) ≡ accepted (given c table)
  round_trip = described by_newline written_describes

-- the reader, given the bytes that the writer wrote and a table that is long enough
pub read_back : {c : Counts} {table buffer : List ℕ} {bytes : ℕ} {buffer' : List ℕ} → Writing c table buffer 0 bytes buffer'
    → (lent : List ℕ) → table_length c ≤ length lent → Reading (take bytes buffer') lent 0 c (over (take (table_length c) table) lent)
unfolding afterwards over
read_back {c} {table} {buffer} w lent h =
    let text : List ℕ = write_text c table in
    let e = round_trip c table (write_legal c table (write_text c table) buffer w.answers) in
    rw (w.returns, w.fills, take-append_seam text (drop (length text) buffer)) (reading_accepted lent (read_fits lent e h))

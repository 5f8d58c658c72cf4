-- What is read keeps the rules, each gate with its larger operand first; so it is a legal and ordered table. Assumes nothing.
use mathlib.Core.Path.{◌≡◌, refl, sym, ◌∙◌, ap₂}
use mathlib.Core.List.{List, [], ◌∷◌, ◌++◌}
use Prim.Native.Nat.{ℕ, ◌≤◌, ◌<◌}
use native.Mathlib.Omega.{arith}
use borrow.Author.Tests.{lt-ltb, le-leb}
use lib.ListN.{length, drop, length-append}
use Rattle.circuit.specs.declared.Counts.{Counts}
use Rattle.circuit.specs.Refusal.{refusal}
use Rattle.circuit.specs.RulesInCode.{Passed, Bounded}
use Rattle.circuit.specs.Table.{top, table_length, Kind, input, latch, literal, gate, kinds, width, row_tests, table_tests, circuit_tests, literal_tests, operand_tests}
use Rattle.text.specs.Line.{newline}
use Rattle.text.specs.Outcome.{accepted}
use Rattle.text.specs.Text.{words, line_tests, Lines, counts_of, Content}
use Rattle.text.proofs.Outcomes.{append_passed, accepted_same}
use Rattle.text.proofs.Heads.{head_bounded}
use Rattle.text.proofs.Steps.{header_accepted}
use Rattle.text.proofs.Tables.{size, size_kinds, Due, Owned, owned_kinds, taken_refusal}
use Rattle.text.proofs.Spelling.{length_words, drop_words, rules_words}
use Rattle.binary.specs.Binary.{binary_magic, Row, owned, read_row, read_rows, circuit_rows, read_binary}
use Rattle.binary.specs.Ordered.{ordered, Ordered}
use Rattle.binary.proofs.Gates.{Operands, passed_operands}
use Rattle.binary.proofs.Rows.{Lined, lined_row, row_accepted, LineRow, line_accepted, gate_accepted}
use Rattle.binary.proofs.OrderedRows.{ordered_row, ordered_rows, ordered_rows_lem}
use Rattle.binary.proofs.Ordering.{ordered_ordered}

-- A row that was read, in front of any words
pub record Front (most : ℕ) (k : Kind) (us : List ℕ) : Type 0 where
  pub sized : length us ≡ width k
  pub rules : (ws : List ℕ) → Passed (row_tests most k (us ++ ws))
  pub same : (ws : List ℕ) → ordered_row k (us ++ ws) ≡ us
  pub behind : (ws : List ℕ) → drop (width k) (us ++ ws) ≡ ws

words_same : (k : Kind) (ns ws : List ℕ) → Lined k → ordered_row k (words k ns ++ ws) ≡ words k ns
unfolding ordered_row words
words_same (input own) ns ws h = absurd h
words_same (latch own) ns ws h = refl
words_same literal ns ws h = refl
words_same (gate own) ns ws h = absurd h

line_front : (most : ℕ) (k : Kind) (t : List ℕ) {r : Row} → Lined k → read_row most k t ≡ accepted r → Front most k r.words
unfolding line_tests
line_front most k t {r} h a =
    let l : LineRow most k t r = line_accepted most k t (sym (lined_row most k t h) ∙ a) in
    let ns : List ℕ = owned k l.numbers in
    rw (← l.gives) (record {
      sized = length_words k ns;
      rules = λ ws. rw (rules_words most k ns ws) l.passes.1.1;
      same = λ ws. words_same k ns ws h;
      behind = λ ws. drop_words k ns ws;
    })

gate_rules : (most own left right : ℕ) → own ≤ most → left < own → right ≤ left → Front most (gate own) (left ∷ right ∷ [])
unfolding row_tests literal_tests operand_tests width ordered_row
gate_rules most own left right o p q = record {
  sized = refl;
  rules = λ ws. (le-leb left most (omega arith), (le-leb right most (omega arith), (lt-ltb left own p, (lt-ltb right own (omega arith), tt))));
  same = λ ws. ap₂ (λ (x y : ℕ). x ∷ y ∷ []) (omega arith) (omega arith);
  behind = λ ws. refl;
}

row_front : (most : ℕ) (k : Kind) (t : List ℕ) {r : Row} → Due most k → read_row most k t ≡ accepted r → Front most k r.words
unfolding read_row row_tests literal_tests operand_tests width ordered_row
row_front most (input own) t d a = rw (← (accepted_same a)) (record { sized = refl; rules = λ ws. tt; same = λ ws. refl; behind = λ ws. refl })
row_front most (latch own) t d a = line_front most (latch own) t tt a
row_front most literal t d a = line_front most literal t tt a
row_front most (gate own) t d a =
    let g = gate_accepted own t a in
    let o : Operands own g.found = passed_operands own g.found g.passes in
    rw (← g.gives, o.gives) (gate_rules most own o.left o.right d.1 o.below o.larger)

-- Rows that were read as the words ws
pub record RowsRead (most : ℕ) (ks : List Kind) (ws : List ℕ) : Type 0 where
  pub sized : length ws ≡ size ks
  pub rules : Passed (table_tests most ks ws)
  pub same : ordered_rows ks ws ≡ ws

front_rows : (most : ℕ) (k : Kind) (ks : List Kind) (us ws : List ℕ) → Front most k us → RowsRead most ks ws → RowsRead most (k ∷ ks) (us ++ ws)
unfolding size table_tests ordered_rows
front_rows most k ks us ws r s = record {
  sized = simp length-append (omega (arith, r.sized, s.sized));
  rules = rw (r.behind ws) (append_passed (row_tests most k (us ++ ws)) (table_tests most ks ws) (r.rules ws) s.rules);
  same = rw (r.behind ws, r.same ws, s.same);
}

pub rows_read : (most : ℕ) (ks : List Kind) (t : List ℕ) {l : Lines} → Owned most ks → read_rows most ks t ≡ accepted l → RowsRead most ks l.words
unfolding read_rows size table_tests ordered_rows
rows_read most [] t o a = rw (← (accepted_same a)) (record { sized = refl; rules = tt; same = refl })
rows_read most (k ∷ ks) t o a =
    let f = row_accepted most k ks t a in
    rw (← f.gives) (front_rows most k ks f.row.words f.others.words (row_front most k t o.0 f.reads) (rows_read most ks f.row.rest o.1 f.on))

-- A circuit that was read from bytes
pub record BinaryRead (c : Content) : Type 0 where
  pub legal : 0 ≡ refusal (circuit_tests c.counts c.words)
  pub whole : length c.words ≡ table_length c.counts
  pub larger : Ordered c.counts c.words

rows_circuit : (c : Counts) (ws : List ℕ) → Bounded c → RowsRead (top c) (kinds c) ws → BinaryRead (record { counts = c; words = ws })
rows_circuit c ws b r =
    let whole : length ws ≡ table_length c = r.sized ∙ size_kinds c in
    let same : ordered c ws ≡ ws = sym (ordered_rows_lem c ws (omega arith)) ∙ r.same in
    record {
      legal = taken_refusal (record { bounded = b; long = omega arith; rules = r.rules });
      whole = whole;
      larger = rw same at (ordered_ordered c ws (omega arith));
    }

pub binary_read : (t : List ℕ) {c : Content} → read_binary t ≡ accepted c → BinaryRead c
unfolding read_binary
binary_read t a =
    let h = header_accepted binary_magic newline circuit_rows t a in
    let n : Counts = counts_of h.numbers in
    rw (← h.gives) (rows_circuit n h.lines.words (head_bounded h.numbers h.passes) (rows_read (top n) (kinds n) h.behind (owned_kinds n) h.on))

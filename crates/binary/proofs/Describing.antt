-- The bytes that describe a circuit, each gate with its larger operand first (specification, 4.16), are read; what is written describes one. Assumes nothing.
use mathlib.Core.Path.{◌≡◌, refl, ◌∙◌, ap, ap₂}
use mathlib.Core.Bool.{true}
use mathlib.Core.List.{List, [], ◌∷◌, ◌++◌, append_assoc}
use Prim.Native.Nat.{ℕ, suc, ◌≤◌, ◌<◌, max, min}
use native.Mathlib.Omega.{arith}
use borrow.Author.Tests.{leb-true, ltb-true, eqb-true}
use lib.Dec.{leb}
use lib.ListN.{length, get_or, drop}
use Rattle.three.proofs.Lists.{and_parts}
use Rattle.circuit.specs.declared.Counts.{Counts}
use Rattle.circuit.specs.Refusal.{refusal}
use Rattle.circuit.specs.RulesInCode.{Passed}
use Rattle.circuit.specs.Table.{top, table_length, Kind, input, latch, literal, gate, kinds, width, row_tests, table_tests, circuit_tests, literal_tests, operand_tests}
use Rattle.circuit.proofs.Refusals.{passed_append, passed_refusal}
use Rattle.text.specs.Part.{got}
use Rattle.text.specs.Line.{newline, line_text}
use Rattle.text.specs.Outcome.{accepted, onward}
use Rattle.text.specs.Text.{write_rows, first_line, fits, words, line_tests, Content}
use Rattle.text.proofs.Lines.{Short, newline_proper, line_split}
use Rattle.text.proofs.Steps.{end_fits, header_fits}
use Rattle.text.proofs.Tables.{Due, Owned, owned_kinds, Taken, taken}
use Rattle.text.proofs.Spelling.{Spelled, Seen, seen, drop_words, shown_spelled, lamp_line}
use Rattle.text.proofs.Heads.{Heads, heads_fit}
use Rattle.text.proofs.Grammar.{Closing, closing_ends, header_back}
use Rattle.binary.specs.Gate.{differences, gate_bytes}
use Rattle.binary.specs.Binary.{binary_magic, row_bytes, owned, read_row, read_rows, circuit_rows, read_binary}
use Rattle.binary.proofs.OrderedRows.{ordered_row, ordered_rows}
use Rattle.binary.proofs.Rows.{Lined, lined_row, row_on, line_fits, gate_back}

-- Bytes with a row for each kind, in order, and these words; then the bytes r. A latch line does not show its own literal; an input has no row.
pub data RowsSay (r : List ℕ) : List Kind → List ℕ → List ℕ → Type 0 where
  stop : RowsSay r [] [] r
  input_row : {own : ℕ} {ks : List Kind} {ws t : List ℕ} → RowsSay r ks ws t → RowsSay r (input own ∷ ks) ws t
  line_row : {k : Kind} {ks : List Kind} {all ws t : List ℕ} (ns : List ℕ) → Lined k → Spelled ws k all (owned k ns) → RowsSay r ks ws t → RowsSay r (k ∷ ks) all (line_text ns ++ t)
  gate_row : {own left right : ℕ} {ks : List Kind} {ws t : List ℕ} → right ≤ left → RowsSay r ks ws t
      → RowsSay r (gate own ∷ ks) (left ∷ right ∷ ws) (gate_bytes (differences own left right) ++ t)

-- The binary text of a circuit
pub record BinaryDescribes (t : List ℕ) (c : Content) : Type 0 where
  pub short : length t ≤ 60000
  pub legal : 0 ≡ refusal (circuit_tests c.counts c.words)
  pub whole : length c.words ≡ table_length c.counts
  pub head : List ℕ
  pub heads : Heads c.counts head
  pub body : List ℕ
  pub text : t ≡ binary_magic ++ (line_text head ++ body)
  pub rest : List ℕ
  pub says : RowsSay rest (kinds c.counts) c.words body
  pub closes : Closing newline rest

-- ---- what describes a circuit is read

-- the line of a latch has one or two numbers, that of a lamp one
lined_shape : (k : Kind) (ns : List ℕ) → Lined k → fits k (length (owned k ns)) ≡ true → Short (owned k ns) → (0 < length ns) × (length ns ≤ 3) × Short ns
unfolding fits owned
lined_shape (input own) ns h f s = absurd h
lined_shape (latch own) ns h f s =
    let p = and_parts (leb 2 (suc (length ns))) (leb (suc (length ns)) 3) f in
    (omega (arith, leb-true 2 (suc (length ns)) p.0), omega (arith, leb-true (suc (length ns)) 3 p.1), s.1)
lined_shape literal ns h f s = let e = eqb-true (length ns) 1 f in (omega arith, omega arith, s)
lined_shape (gate own) ns h f s = absurd h

line_says : {most : ℕ} (k : Kind) {all ws : List ℕ} (ns t : List ℕ) → Lined k → Seen most k all ws (owned k ns)
    → read_row most k (line_text ns ++ t) ≡ accepted (record { words = words k (owned k ns); rest = t })
unfolding line_tests
line_says {most} k ns t h v =
    let s = lined_shape k ns h v.passes.0 v.shape.2 in
    lined_row most k _ h ∙ line_fits most k _ (line_split newline newline_proper 3 ns t s.0 s.1 s.2) v.passes

gate_says : (most own left right : ℕ) (t : List ℕ) → own < 16384 → left < own → right ≤ left
    → read_row most (gate own) (gate_bytes (differences own left right) ++ t) ≡ accepted (record { words = left ∷ right ∷ []; rest = t })
unfolding read_row
gate_says most own left right t m p q =
    let e : max left right ≡ left = omega arith in
    let f : min left right ≡ right = omega arith in
    gate_back own left right t m p (omega arith) ∙ rw (e, f)

says_read : (most : ℕ) {r : List ℕ} {ks : List Kind} {ws t : List ℕ} → most < 16384 → Owned most ks → RowsSay r ks ws t → Passed (table_tests most ks ws)
    → read_rows most ks t ≡ accepted (record { owns = []; words = ws; rest = r })
unfolding read_rows read_row table_tests row_tests literal_tests operand_tests width
says_read most m o stop p = refl
says_read most m o (input_row {own = own} {ks = ks} s) p = row_on most (input own) ks _ refl (says_read most m o.1 s p)
says_read most m o (line_row {k = k} {ks = ks} {all = all} {ws = ws} {t = t} ns h s on) p =
    let q = passed_append (row_tests most k all) (table_tests most ks (drop (width k) all)) p in
    let v : Seen most k all ws (owned k ns) = seen (omega arith) o.0 s q.0 in
    row_on most k ks _ (line_says k ns t h v) (says_read most m o.1 on (rw (← v.gives, drop_words) at q.1)) ∙ rw v.gives
says_read most m o (gate_row {own = own} {left = left} {right = right} {ks = ks} {t = t} h s) p =
    row_on most (gate own) ks _ (gate_says most own left right t (omega arith) (ltb-true left own p.1.1.0) h) (says_read most m o.1 s p.1.1.1.1)

pub described_read : {t : List ℕ} {c : Content} → BinaryDescribes t c → read_binary t ≡ accepted c
unfolding read_binary onward
described_read {t} {c} d =
    let n : Counts = c.counts in
    let k : Taken n c.words = taken n c.words d.legal in
    let f = heads_fit d.heads k.bounded in
    let first : first_line binary_magic newline t ≡ got d.head d.body = rw d.text (header_back binary_magic newline_proper d.heads k.bounded d.body) in
    header_fits binary_magic newline circuit_rows t d.short first (passed_refusal _ f.passes)
    ∙ rw (f.counts, end_fits newline (says_read (top n) (omega arith) (owned_kinds n) d.says k.rules) (closing_ends newline d.closes))
    (ap (λ (m : Counts). accepted (record { counts = m; words = c.words })) f.counts)

-- ---- what is written says them

differences_ordered : (own left right : ℕ) → differences own (max left right) (min left right) ≡ differences own left right
unfolding differences
differences_ordered own left right = ap₂ (λ (x y : ℕ). record { first = x; second = y }) (omega arith) (omega arith)

row_says : (most : ℕ) (k : Kind) {ks : List Kind} {r us t : List ℕ} (ws : List ℕ) → Due most k → Passed (row_tests most k ws) → RowsSay r ks us t
    → RowsSay r (k ∷ ks) (ordered_row k ws ++ us) (row_bytes k ws ++ t)
unfolding row_tests literal_tests operand_tests ordered_row row_bytes owned
row_says most (input own) ws d p s = input_row s
row_says most (latch own) {us = us} ws d p s = line_row _ tt (shown_spelled own (get_or ws 0 0) (get_or ws 1 0) us d.0 (leb-true (get_or ws 1 0) 2 p.1.0)) s
row_says most literal ws d p s = line_row (get_or ws 0 0 ∷ []) tt lamp_line s
row_says most (gate own) ws d p s =
    let h : min (get_or ws 0 0) (get_or ws 1 0) ≤ max (get_or ws 0 0) (get_or ws 1 0) = omega arith in
    rw (← (differences_ordered own (get_or ws 0 0) (get_or ws 1 0))) (gate_row h s)

pub written_says : (most : ℕ) (ks : List Kind) (ws tail : List ℕ) → Owned most ks → Passed (table_tests most ks ws) → RowsSay tail ks (ordered_rows ks ws) (write_rows row_bytes ks ws ++ tail)
unfolding write_rows ordered_rows table_tests
written_says most [] ws tail o p = stop
written_says most (k ∷ ks) ws tail o p =
    let q = passed_append (row_tests most k ws) (table_tests most ks (drop (width k) ws)) p in
    rw append_assoc (row_says most k ws o.0 q.0 (written_says most ks (drop (width k) ws) tail o.1 q.1))

-- Which bytes are accepted: exactly those that describe a circuit which 3, 10 and 11 do not refuse, each gate with its larger operand first
-- (specification, 4.16). Assumes nothing.
use mathlib.Core.Path.{◌≡◌, sym, ◌∙◌, subst, subst⁻¹}
use mathlib.Core.List.{List, [], ◌∷◌, ◌++◌}
use mathlib.Core.Logic.{◌↔◌}
use Prim.Native.Nat.{ℕ}
use Rattle.circuit.specs.declared.Counts.{Counts}
use Rattle.circuit.specs.Table.{top, Kind, input, latch, literal, gate, kinds}
use Rattle.text.specs.Line.{newline, line_text}
use Rattle.text.specs.Outcome.{accepted}
use Rattle.text.specs.Text.{words, line_tests, Lines, counts_of, Content}
use Rattle.text.proofs.Outcomes.{accepted_same}
use Rattle.text.proofs.Lines.{split_line_lem}
use Rattle.text.proofs.Steps.{header_accepted}
use Rattle.text.proofs.Spelling.{spelled}
use Rattle.text.proofs.Heads.{head_shows}
use Rattle.text.proofs.Grammar.{ends_closing, header_text}
use Rattle.binary.specs.Gate.{differences, gate_bytes}
use Rattle.binary.specs.Binary.{binary_magic, Row, owned, read_row, read_rows, circuit_rows, read_binary}
use Rattle.binary.proofs.Differences.{Bytes}
use Rattle.binary.proofs.Gates.{GateOpens, read_gate_lem, Operands, passed_operands}
use Rattle.binary.proofs.Rows.{Lined, lined_row, row_accepted, LineRow, line_accepted, GateRead, gate_accepted}
use Rattle.binary.proofs.Describing.{RowsSay, stop, input_row, line_row, gate_row, BinaryDescribes, described_read}
use Rattle.binary.proofs.ReadRows.{BinaryRead, binary_read}

bytes_behind : (s t : List ℕ) → Bytes (s ++ t) → Bytes t
bytes_behind [] t b = b
bytes_behind (x ∷ s) t b = bytes_behind s t b.1

-- ---- a row that was read stands in front of any others as it is written

record Opens (k : Kind) (t : List ℕ) (r : Row) : Type 0 where
  before : (rest : List ℕ) (ks : List Kind) (ws : List ℕ) → RowsSay rest ks ws r.rest → RowsSay rest (k ∷ ks) (r.words ++ ws) t
  bytes : Bytes r.rest

line_opens : (most : ℕ) (k : Kind) (t : List ℕ) {r : Row} → Bytes t → Lined k → read_row most k t ≡ accepted r → Opens k t r
unfolding line_tests
line_opens most k t {r} b h a =
    let l : LineRow most k t r = line_accepted most k t (sym (lined_row most k t h) ∙ a) in
    let ns : List ℕ = owned k l.numbers in
    let text : t ≡ line_text l.numbers ++ r.rest = (split_line_lem newline 3 l.split).text in
    let p = l.passes in
    rw (← l.gives) (record {
      before = λ rest ks ws s. subst⁻¹ (RowsSay rest (k ∷ ks) (words k ns ++ ws)) text (line_row l.numbers h (spelled k ns ws p.0 p.1.0) s);
      bytes = bytes_behind (line_text l.numbers) r.rest (subst Bytes text b);
    })

row_opens : (most : ℕ) (k : Kind) (t : List ℕ) {r : Row} → Bytes t → read_row most k t ≡ accepted r → Opens k t r
unfolding read_row
row_opens most (input own) t b a = rw (← (accepted_same a)) (record { before = λ rest ks ws s. input_row s; bytes = b })
row_opens most (latch own) t b a = line_opens most (latch own) t b tt a
row_opens most literal t b a = line_opens most literal t b tt a
row_opens most (gate own) t {r} b a =
    let g : GateRead own t r = gate_accepted own t a in
    let o : Operands own g.found = passed_operands own g.found g.passes in
    let w : GateOpens t g.found r.rest = read_gate_lem t b g.split in
    let text : t ≡ gate_bytes (differences own o.left o.right) ++ r.rest = w.text ∙ rw o.same in
    let is : r.words ≡ o.left ∷ o.right ∷ [] = sym g.gives ∙ o.gives in
    rw is (record {
      before = λ rest ks ws s. subst⁻¹ (RowsSay rest (gate own ∷ ks) (o.left ∷ o.right ∷ ws)) text (gate_row o.larger s);
      bytes = w.rest;
    })

-- ---- what is read describes a circuit

rows_say : (most : ℕ) (ks : List Kind) (t : List ℕ) {l : Lines} → Bytes t → read_rows most ks t ≡ accepted l → RowsSay l.rest ks l.words t
unfolding read_rows
rows_say most [] t b a = rw (← (accepted_same a)) stop
rows_say most (k ∷ ks) t b a =
    let f = row_accepted most k ks t a in
    let g = row_opens most k t b f.reads in
    rw (← f.gives) (g.before _ ks _ (rows_say most ks f.row.rest g.bytes f.on))

pub read_describes : (t : List ℕ) {c : Content} → Bytes t → read_binary t ≡ accepted c → BinaryDescribes t c
unfolding read_binary
read_describes t {c} bytes a =
    let r : BinaryRead c = binary_read t a in
    let h = header_accepted binary_magic newline circuit_rows t a in
    let n : Counts = counts_of h.numbers in
    let first = header_text binary_magic newline t h.split in
    let behind : Bytes h.behind = bytes_behind (line_text h.numbers) h.behind (bytes_behind binary_magic (line_text h.numbers ++ h.behind) (subst Bytes first.0 bytes)) in
    rw (← h.gives) (record {
      short = h.short;
      legal = rw (← h.gives) at r.legal;
      whole = rw (← h.gives) at r.whole;
      head = h.numbers;
      heads = head_shows h.numbers first.1 h.passes;
      body = h.behind;
      text = first.0;
      rest = h.lines.rest;
      says = rows_say (top n) (kinds n) h.behind behind h.on;
      closes = ends_closing newline _ h.closed;
    })

-- accepted exactly when so written
pub grammar : (t : List ℕ) (c : Content) → Bytes t → (read_binary t ≡ accepted c) ↔ BinaryDescribes t c
grammar t c bytes = (read_describes t bytes, described_read)

-- The second pass: a row among rows that nothing refuses gives its words, and the others stand behind it. Assumes nothing.
use mathlib.Core.Path.{◌≡◌, refl, sym, ◌∙◌, ap, subst}
use mathlib.Core.List.{List, [], ◌∷◌, ◌++◌}
use Prim.Native.Nat.{ℕ, zero, suc, ◌+◌, ◌≤◌, ◌<◌}
use native.Mathlib.Omega.{arith}
use lib.ListN.{length, get_or}
use lib.Seq.{sets}
use Rattle.std.specs.Prelude.{Result, Ok, Err, IsOk}
use Rattle.circuit.specs.declared.Refusal.{Refusal}
use Rattle.circuit.specs.declared.Counts.{Counts}
use Rattle.circuit.specs.Table.{top, Kind, input, gate, several}
use Rattle.text.specs.Outcome.{accepted, leaves}
use Rattle.text.specs.declared.LineKind.TheVariants.{Input}
use Rattle.text.specs.KindsInCode.{coded}
use Rattle.text.specs.Text.{Lines, Content}
use Rattle.text.proofs.Outcomes.{accepted_same, refused_accepted}
use Rattle.lines.specs.LinesInCode.{from}
use Rattle.reader.specs.declared.Place.{Place}
use Rattle.reader.specs.ReaderInCode.{lines_of, body_words, KindFilled}
use Rattle.circuit.proofs.Answering.{numbered}
use Rattle.reader.proofs.Bodies.{after_refused}
use Rattle.reader.proofs.Filling.{Turn}
use Rattle.circuit.specs.Table.{table_length}
use Rattle.binary.specs.Binary.{Row, read_gate_row, read_row, read_rows, circuit_rows, read_binary}
use Rattle.binary.proofs.Rows.{RowRead, row_accepted}
use Rattle.binary.proofs.ReadRows.{binary_read}
use Rattle.binary_reader.specs.declared.GateRow.{GateRow}
use Rattle.binary_reader.specs.BinaryReaderInCode.{RowFound}
use Rattle.binary_reader.proofs.Judging.{skip_inputs}

-- ---- a row, and those behind it

abbrev row_of : List ℕ → List ℕ → ℕ → Row
row_of text ws next = record { words = ws; rest = from text next }

module _ (most : ℕ) {text : List ℕ} (k : Kind) (ks : List Kind) {at next : ℕ} {ws : List ℕ} (f : RowRead most k ks (from text at) (lines_of (read_rows most) (k ∷ ks) (from text at))) where
  row_turn : row_of text ws next ≡ f.row → next ≤ length text → ((i : ℕ) → get_or ws i 0 < 65536) → Turn (read_rows most) text k ks at next ws
  unfolding lines_of leaves
  row_turn e w small =
      let on : read_rows most ks (from text next) ≡ accepted f.others = ap (λ (r : Row). read_rows most ks r.rest) e ∙ f.on in
      let same : lines_of (read_rows most) ks (from text next) ≡ f.others = ap (leaves (λ (l : Lines). l) _) on in
      record {
        within = w;
        small = small;
        accepts = on ∙ ap accepted (sym same);
        gives = ap (λ (o : Lines). ws ++ o.words) same ∙ ap (λ (r : Row). r.words ++ f.others.words) e ∙ ap (λ (o : Lines). o.words) f.gives;
      }

-- ---- a gate

pair_small : (a b : ℕ) → a < 65536 → b < 65536 → (i : ℕ) → get_or (a ∷ b ∷ []) i 0 < 65536
pair_small a b p q zero = p
pair_small a b p q (suc zero) = q
pair_small a b p q (suc (suc i)) = omega arith

-- a gate that is read is not refused
pub gate_read : {text : List ℕ} (at : ℕ) {own : ℕ} (j : Result GateRow Refusal) (c : Counts) (ks : List Kind) → RowFound text own (read_gate_row own (from text at)) j
    → circuit_rows c (gate own ∷ ks) (from text at) ≡ accepted (lines_of (circuit_rows c) (gate own ∷ ks) (from text at)) → IsOk j
unfolding read_row
gate_read {text} at {own} (Ok r) c ks g accepts = refl
gate_read {text} at {own} (Err r) c ks g accepts =
    let f = row_accepted (top c) (gate own) ks (from text at) accepts in
    absurd (refused_accepted (sym (after_refused _ _ (numbered r)) ∙ sym g.reads ∙ f.reads))

pub gate_turn : {text : List ℕ} {at own : ℕ} {r : GateRow} (c : Counts) (ks : List Kind) → own < 65536 → RowFound text own (read_gate_row own (from text at)) (Ok r)
    → circuit_rows c (gate own ∷ ks) (from text at) ≡ accepted (lines_of (circuit_rows c) (gate own ∷ ks) (from text at)) → Turn (circuit_rows c) text (gate own) ks at r.next (r.left ∷ r.right ∷ [])
unfolding read_row
gate_turn {text} {at} {own} {r} c ks small g accepts =
    let f = row_accepted (top c) (gate own) ks (from text at) accepts in
    row_turn (top c) (gate own) ks f (accepted_same (sym g.reads ∙ f.reads)) g.within (pair_small r.left r.right (omega (arith, g.left)) (omega (arith, g.right)))

-- ---- no row for an input

pub inputs_filled : {text : List ℕ} {own n : ℕ} {p : Place} {table : List ℕ} → KindFilled circuit_rows text (coded Input) own n p table p table
unfolding coded lines_of leaves
inputs_filled {text} {own} {n} {p} {table} f =
    let e = skip_inputs (top f.counts) own n f.behind (from text p.at) in
    let lines : lines_of (circuit_rows f.counts) (several input own n f.behind) (from text p.at) ≡ lines_of (circuit_rows f.counts) f.behind (from text p.at) = ap (leaves (λ (l : Lines). l) _) e in
    record {
      left = record {
        within = f.all.within;
        accepts = sym e ∙ f.all.accepts ∙ ap accepted lines;
        room = subst (λ (l : Lines). p.word + length l.words ≤ length table) lines f.all.room;
      };
      long = refl;
      same = ap (λ (l : Lines). sets table p.word l.words) (sym lines);
    }

pub no_words : (c : Counts) (t : List ℕ) → [] ≡ body_words (circuit_rows c) [] t
unfolding lines_of leaves read_rows
no_words c t = refl

pub rows_whole : (text : List ℕ) (c : Content) → read_binary text ≡ accepted c → length c.words ≡ table_length c.counts
rows_whole text c e = (binary_read text e).whole

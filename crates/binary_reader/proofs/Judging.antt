-- The first pass: a row's refusal, or else the rows after it, decide. Assumes nothing.
use mathlib.Core.Path.{◌≡◌, refl, sym, ◌∙◌, ap, ap₂}
use mathlib.Core.List.{List, [], ◌∷◌}
use Prim.Native.Nat.{ℕ, zero, suc, ◌+◌, ◌≤◌}
use native.Mathlib.Omega.{arith}
use borrow.Author.Tests.{ltb-true, ltb-false}
use lib.Dec.{ltb}
use lib.ListN.{length}
use Rattle.three.proofs.Lists.{by_test}
use Rattle.std.specs.Prelude.{Ok, Err}
use Rattle.circuit.specs.declared.Counts.{Counts}
use Rattle.circuit.specs.declared.Refusal.{Refusal}
use Rattle.circuit.specs.Answer.{number_of}
use Rattle.circuit.proofs.Answering.{numbered}
use Rattle.circuit.specs.Refusal.{refusal}
use Rattle.circuit.specs.Table.{Kind, input, latch, literal, gate, several}
use Rattle.circuit.proofs.Refusals.{stops}
use Rattle.text.specs.Part.{got, ill}
use Rattle.text.specs.Line.{newline, read_line}
use Rattle.text.specs.Outcome.{Outcome, accepted, refused, tested, onward}
use Rattle.text.specs.OutcomeInCode.{after}
use Rattle.text.specs.declared.LineKind.{LineKind}
use Rattle.text.specs.declared.LineKind.TheVariants.{Input, Latch, Lamp, Gate}
use Rattle.text.specs.KindsInCode.{coded}
use Rattle.text.specs.Text.{fits, words, line_tests, Lines}
use Rattle.lines.specs.declared.read_line.ReadLine.{ReadLine}
use Rattle.lines.specs.LinesInCode.{from, numbers_of}
use Rattle.lines.proofs.Finding.{line_got, line_ill_formed}
use Rattle.reader.specs.ReaderInCode.{left, LineShown, LinesJudged}
use Rattle.reader.proofs.Bodies.{left_onward, left_refused, after_refused}
use Rattle.binary.specs.Binary.{Row, owned, read_line_row, read_gate_row, read_row, then, row_in_front, read_rows, circuit_rows}
use Rattle.binary.proofs.Rows.{Lined, lined_row}
use Rattle.binary_reader.specs.declared.GateRow.{GateRow}
use Rattle.binary_reader.specs.BinaryReaderInCode.{RowFound, HasLine}
use Rattle.binary_reader.proofs.OwnLine.{RowLine}

-- ---- one row

then_after : (n : ℕ) (r : Row) (o : Row → Outcome Lines) → then (after n (accepted r)) o ≡ after n (o r)
unfolding then
then_after zero r o = refl
then_after (suc n) r o = refl

-- the rows after a row that is read behind a number
row_after : (text : List ℕ) (at most : ℕ) (k : Kind) (n : ℕ) (r : Row) → read_row most k (from text at) ≡ after n (accepted r) → (ks : List Kind)
    → read_rows most (k ∷ ks) (from text at) ≡ after n (onward (row_in_front r) (read_rows most ks r.rest))
unfolding read_rows
row_after text at most k n r e ks = ap (λ (o : Outcome Row). then o (λ s. onward (row_in_front s) (read_rows most ks s.rest))) e ∙ then_after n r (λ s. onward (row_in_front s) (read_rows most ks s.rest))

module _ (text : List ℕ) (at own most : ℕ) where
  pub gate_stopped : {r : Refusal} → RowFound text own (read_gate_row own (from text at)) (Err r) → LinesJudged (read_rows most) text at (λ ks. gate own ∷ ks) (Err r)
  unfolding read_row
  gate_stopped {r} f = record {
    says = λ ks. left_refused (row_after text at most (gate own) (number_of r) _ f.reads ks ∙ after_refused _ _ (numbered r)) ∙ sym (after_refused _ _ (numbered r));
    within = omega arith;
  }

  pub gate_passed : {r : GateRow} → RowFound text own (read_gate_row own (from text at)) (Ok r) → LinesJudged (read_rows most) text at (λ ks. gate own ∷ ks) (Ok r.next)
  unfolding read_row
  gate_passed f = record { says = λ ks. ap left (row_after text at most (gate own) 0 _ f.reads ks) ∙ left_onward _ (λ l. refl) _; within = f.within }

-- ---- a line

pub lined_coded : (k : LineKind) (own : ℕ) → HasLine k → Lined (coded k own)
unfolding coded
lined_coded Input own h = absurd h
lined_coded Latch own h = tt
lined_coded Lamp own h = tt
lined_coded Gate own h = absurd h

line_outcome : (most : ℕ) (k : Kind) (t ns rest : List ℕ) (n : ℕ) → read_line newline t ≡ got ns rest → n ≡ refusal (line_tests most k (owned k ns))
    → read_line_row most k t ≡ after n (accepted (record { words = words k (owned k ns); rest = rest }))
unfolding read_line_row tested
line_outcome most k t ns rest n e h = rw (read_line_row, e) (ap (λ m. after m (accepted (record { words = words k (owned k ns); rest = rest }))) (sym h))

line_none : (most : ℕ) (k : Kind) (t : List ℕ) → read_line newline t ≡ ill → read_line_row most k t ≡ refused 4
unfolding read_line_row
line_none most k t e = rw (read_line_row, e)

none_fits : (most : ℕ) (k : Kind) → Lined k → 4 ≡ refusal (line_tests most k (owned k []))
unfolding line_tests fits owned
none_fits most (input own) h = absurd h
none_fits most (latch own) h = stops _ _ refl
none_fits most literal h = stops _ _ refl
none_fits most (gate own) h = absurd h

no_numbers : (l : ReadLine) → l.count ≡ 0 → numbers_of l ≡ []
unfolding numbers_of
no_numbers l e = rw e

module _ (text : List ℕ) (at : ℕ) (k : LineKind) (own : ℕ) (l : ReadLine) (kind : HasLine k) (f : RowLine text at (coded k own) l) where
  row_says : (most : ℕ) → read_row most (coded k own) (from text at) ≡ after (refusal (line_tests most (coded k own) (numbers_of l))) (accepted (record { words = words (coded k own) (numbers_of l); rest = from text l.next }))
  row_says most =
      let same = ap (λ ns. refusal (line_tests most (coded k own) ns)) f.same in
      lined_row most (coded k own) (from text at) (lined_coded k own kind) ∙ by_test (ltb 0 f.line.count)
      (λ z. line_outcome most (coded k own) (from text at) (numbers_of f.line) (from text f.line.next) _ (line_got f.line f.found (ltb-true 0 f.line.count z)) same
      ∙ ap₂ (λ (ns : List ℕ) (p : ℕ). after (refusal (line_tests most (coded k own) (numbers_of l))) (accepted (record { words = words (coded k own) ns; rest = from text p }))) (sym f.same) (sym f.next))
      (λ z. let empty : f.line.count ≡ 0 = omega (arith, ltb-false 0 f.line.count z) in
      let four : refusal (line_tests most (coded k own) (numbers_of l)) ≡ 4 = same ∙ ap (λ ns. refusal (line_tests most (coded k own) (owned (coded k own) ns))) (no_numbers f.line empty) ∙ sym (none_fits most (coded k own) (lined_coded k own kind)) in
      rw four (line_none most (coded k own) (from text at) (line_ill_formed f.line f.found empty)))

  pub row_shown : LineShown read_rows text at (coded k own) l
  row_shown = record {
    adds = row_in_front (record { words = words (coded k own) (numbers_of l); rest = from text l.next });
    rest = λ o. refl;
    words = λ o. refl;
    says = λ most ks. row_after text at most (coded k own) _ _ (row_says most) ks;
    within = rw f.next f.found.within;
  }

-- ---- no row for an input

onward_same : (o : Outcome Lines) → onward (row_in_front (record { words = []; rest = [] })) o ≡ o
unfolding onward
onward_same (accepted l) = refl
onward_same (refused n) = refl

pub skip_inputs : (most own n : ℕ) (ks : List Kind) (t : List ℕ) → read_rows most (several input own n ks) t ≡ read_rows most ks t
unfolding several read_rows read_row then
skip_inputs most own zero ks t = refl
skip_inputs most own (suc n) ks t = onward_same _ ∙ skip_inputs most (own + 2) n ks t

pub inputs_judged : (text : List ℕ) (at most own n : ℕ) → at ≤ length text → LinesJudged (read_rows most) text at (several input own n) (Ok at)
inputs_judged text at most own n h = record { says = λ ks. ap left (skip_inputs most own n ks (from text at)); within = h }

pub no_rows : (c : Counts) (t : List ℕ) → left (circuit_rows c [] t) ≡ accepted t
unfolding read_rows left onward
no_rows c t = refl

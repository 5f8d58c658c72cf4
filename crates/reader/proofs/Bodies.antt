-- The body, line by line: a line found, and the first pass over the lines, turn by turn. Assumes nothing.
use mathlib.Core.Path.{◌≡◌, refl, sym, ◌∙◌, ap}
use mathlib.Core.Bool.{false, true}
use mathlib.Core.List.{List, ◌∷◌}
use Prim.Native.Nat.{ℕ, zero, suc, ◌+◌, ◌*◌, ◌≤◌, ◌<◌}
use native.Mathlib.Omega.{arith}
use borrow.Author.Tests.{ltb-true, ltb-false, ne_eqb}
use lib.Dec.{ltb}
use lib.ListN.{length, get_or}
use Rattle.three.proofs.Lists.{by_test}
use Rattle.circuit.specs.Table.{Kind, input, latch, gate, several, literal}
use Rattle.circuit.specs.Refusal.{refusal}
use Rattle.text.specs.Part.{got}
use Rattle.text.specs.Line.{strip, read_line}
use Rattle.text.specs.Outcome.{Outcome, accepted, refused, onward}
use Rattle.text.specs.OutcomeInCode.{after}
use Rattle.text.specs.Text.{fits, line_tests, ends, Lines, in_front, read_lines}
use Rattle.text.proofs.Steps.{line_ill, line_stops, line_fits}
use Rattle.lines.specs.declared.read_line.ReadLine.{ReadLine}
use Rattle.std.specs.Prelude.{Option, Some, None, is_some, Result, Ok, Err, IsErrAnd}
use Rattle.std.proofs.lemmas.Result.{err_from_is_err_and}
use Rattle.circuit.specs.declared.Refusal.{Refusal}
use Rattle.circuit.specs.Answer.{number_of, answered, answer_or}
use Rattle.circuit.proofs.Answering.{numbered}
use Rattle.lines.specs.LinesInCode.{from, EndingAt, numbers_of, LineFound}
use Rattle.reader.specs.ReaderInCode.{Reads, left, LineShown, LinesJudged}
use Rattle.text.proofs.Outcomes.{accepted_same, refused_accepted}
use Rattle.lines.proofs.Numbers.{from_end, from_byte}
use Rattle.lines.proofs.Endings.{ending_none, ending_some}
use Rattle.text.proofs.Lines.{strip_other, strip_same}
use Rattle.text.proofs.Tables.{lines_from, lines_first, lines_next, lines_last}
use Rattle.reader.proofs.Judging.{line_count}
use Rattle.lines.proofs.Finding.{line_got, line_ill_formed}

-- ---- the text that lines leave

pub left_onward : (f : Lines → Lines) → ((l : Lines) → (f l).rest ≡ l.rest) → (o : Outcome Lines) → left (onward f o) ≡ left o
unfolding left onward
left_onward f same (accepted l) = ap accepted (same l)
left_onward f same (refused n) = refl

pub left_refused : {o : Outcome Lines} {n : ℕ} → o ≡ refused n → left o ≡ refused n
unfolding left onward
left_refused e = rw e

pub refused_left : (o : Outcome Lines) {n : ℕ} → left o ≡ refused n → o ≡ refused n
unfolding left onward
refused_left (accepted l) e = absurd (refused_accepted (sym e))
refused_left (refused m) e = cc

pub accepted_left : (o : Outcome Lines) {r : List ℕ} → left o ≡ accepted r → (l : Lines) × (o ≡ accepted l) × (l.rest ≡ r)
unfolding left onward
accepted_left (accepted l) e = (l, refl, accepted_same e)
accepted_left (refused n) e = absurd (refused_accepted e)

pub after_refused : {A : Type 0} (n : ℕ) (o : Outcome A) → (n ≡ 0 → ⊥) → after n o ≡ refused n
after_refused zero o h = absurd (h refl)
after_refused (suc n) o h = refl

pub after_none : {A : Type 0} {n : ℕ} (o : Outcome A) → n ≡ 0 → after n o ≡ o
after_none o e = rw e

-- what `?` answers
pub returned : {A : Type 0} (r : Result A Refusal) (e : Refusal) → IsErrAnd r (λ x. x ≡ e) → r ≡ Err e
returned r e made = let (x, was, is) = err_from_is_err_and r made in was ∙ ap Err is

-- ---- the first pass: a line

no_numbers : (k : Kind) → fits k 0 ≡ false
unfolding fits
no_numbers (input own) = refl
no_numbers (latch own) = refl
no_numbers (gate own) = refl
no_numbers literal = refl

-- a line of the plain form
pub plain_shown : (ending text : List ℕ) (at : ℕ) (k : Kind) (l : ReadLine) → LineFound text (read_line ending (from text at)) l → LineShown (λ most. read_lines ending (line_tests most)) text at k l
plain_shown ending text at k l f = record {
  adds = in_front k (numbers_of l);
  rest = λ o. refl;
  words = λ o. refl;
  says = λ most ks. by_test (ltb 0 l.count)
      (λ h. go most ks (refusal (line_tests most k (numbers_of l))) refl (line_got l f (ltb-true 0 l.count h)))
      (λ h. let z : l.count ≡ 0 = omega (arith, ltb-false 0 l.count h) in
      rw (← (line_count most k l (rw (z, no_numbers k)))) (line_ill ending (line_tests most) k ks _ (line_ill_formed l f z)));
  within = f.within;
}
  where
    go : (most : ℕ) (ks : List Kind) (n : ℕ) → n ≡ refusal (line_tests most k (numbers_of l)) → read_line ending (from text at) ≡ got (numbers_of l) (from text l.next)
        → read_lines ending (line_tests most) (k ∷ ks) (from text at) ≡ after n (onward (in_front k (numbers_of l)) (read_lines ending (line_tests most) ks (from text l.next)))
    go most ks zero h g = line_fits ending (line_tests most) k ks _ g h
    go most ks (suc n) h g = line_stops ending (line_tests most) k ks _ g h

module _ {read : ℕ → Reads} {text : List ℕ} {at : ℕ} {k : Kind} {l : ReadLine} (most : ℕ) (f : LineShown read text at k l) where
  line_after : {n : ℕ} → n ≡ refusal (line_tests most k (numbers_of l)) → (ks : List Kind) → read most (k ∷ ks) (from text at) ≡ after n (onward f.adds (read most ks (from text l.next)))
  line_after e ks = f.says most ks ∙ ap (λ n. after n (onward f.adds (read most ks (from text l.next)))) (sym e)

  pub line_stopped : {r : Refusal} → number_of r ≡ refusal (line_tests most k (numbers_of l)) → LinesJudged (read most) text at (λ ks. k ∷ ks) (Err r)
  line_stopped {r} e = record {
    says = λ ks. left_refused (line_after e ks ∙ after_refused _ _ (numbered r)) ∙ sym (after_refused _ _ (numbered r));
    within = omega arith;
  }

  pub line_passed : 0 ≡ refusal (line_tests most k (numbers_of l)) → LinesJudged (read most) text at (λ ks. k ∷ ks) (Ok l.next)
  line_passed e = record { says = λ ks. ap left (line_after e ks) ∙ left_onward f.adds f.rest _; within = f.within }

-- ---- the first pass: the end of the text

module _ (ending text : List ℕ) (at : ℕ) where
  pub ended_last : at ≡ length text → true ≡ ends ending (from text at)
  unfolding ends
  ended_last h = rw (from_end text at (omega arith))

  module _ (h : at < length text) where
    pub ended_other : (get_or text at 0 ≡ 99 → ⊥) → false ≡ ends ending (from text at)
    unfolding ends
    ended_other n = rw (from_byte text at h) (sym (rw (ends, strip_other 99 _ ending _ (ne_eqb 99 (get_or text at 0) (λ e. n (sym e))))))

    pub ended_comment : (n : Option ℕ) → get_or text at 0 ≡ 99 → EndingAt ending text (at + 1) n → is_some n ≡ ends ending (from text at)
    unfolding ends
    ended_comment (Some n) e f =
        let same : strip (99 ∷ ending) (99 ∷ from text (at + 1)) ≡ strip ending (from text (at + 1)) = strip_same 99 99 ending _ refl in
        rw (from_byte text at h, e) (rw (ends, same, ending_some f))
    ended_comment None e f =
        let same : strip (99 ∷ ending) (99 ∷ from text (at + 1)) ≡ strip ending (from text (at + 1)) = strip_same 99 99 ending _ refl in
        rw (from_byte text at h, e) (rw (ends, same, ending_none f))

-- ---- the first pass: of n lines of one kind i are judged, and the next one stands at `next`

module _ (read : Reads) (text : List ℕ) (at : ℕ) (kind : ℕ → Kind) (own n : ℕ) where
  pub record Turns (next i : ℕ) : Type 0 where
    pub few : i ≤ n
    pub within : next ≤ length text
    pub same : (ks : List Kind) → left (read (several kind own n ks) (from text at)) ≡ left (read (lines_from kind own n ks i) (from text next))

  pub turns_first : at ≤ length text → Turns at 0
  turns_first h = record { few = omega arith; within = h; same = λ ks. ap (λ l. left (read l (from text at))) (lines_first kind own n ks) }

  module _ {next i : ℕ} (s : Turns next i) where
    module _ (h : i < n) {j : Result ℕ Refusal} (f : LinesJudged read text next (λ ks. kind (own + 2 * i) ∷ ks) j) where
      line_says : (ks : List Kind) → left (read (several kind own n ks) (from text at)) ≡ after (answered j) (left (read (lines_from kind own n ks (i + 1)) (from text (answer_or 0 j))))
      line_says ks = s.same ks ∙ rw (lines_next kind own n ks i h) (f.says _)

    module _ (h : i < n) where
      pub turns_stop : {r : Refusal} → LinesJudged read text next (λ ks. kind (own + 2 * i) ∷ ks) (Err r) → LinesJudged read text at (several kind own n) (Err r)
      turns_stop {r} f = record { says = λ ks. line_says h f ks ∙ after_refused _ _ (numbered r) ∙ sym (after_refused _ _ (numbered r)); within = omega arith }

      pub turns_next : {to : ℕ} → LinesJudged read text next (λ ks. kind (own + 2 * i) ∷ ks) (Ok to) → Turns to (i + 1)
      turns_next f = record { few = omega arith; within = f.within; same = λ ks. line_says h f ks }

    pub turns_last : n ≤ i → LinesJudged read text at (several kind own n) (Ok next)
    turns_last h = record {
      says = λ ks. s.same ks ∙ ap (λ l. left (read l (from text next))) (lines_last kind own n ks i h);
      within = s.within;
    }

-- ---- the first pass: lines, and others behind them; the first refusal decides

module _ {read : Reads} {text : List ℕ} {at : ℕ} {lines : List Kind → List Kind} (others : List Kind → List Kind) where
  pub judged_stop : {r : Refusal} → LinesJudged read text at lines (Err r) → LinesJudged read text at (λ ks. lines (others ks)) (Err r)
  judged_stop {r} a = record { says = λ ks. a.says _ ∙ after_refused _ _ (numbered r) ∙ sym (after_refused _ _ (numbered r)); within = omega arith }

  pub judged_then : {next : ℕ} → LinesJudged read text at lines (Ok next) → {j : Result ℕ Refusal} → LinesJudged read text next others j → LinesJudged read text at (λ ks. lines (others ks)) j
  judged_then a b = record { says = λ ks. a.says _ ∙ b.says ks; within = b.within }

-- From the lines and the first line to the contract of the reader for any order. Assumes nothing.
use mathlib.Core.Path.{◌≡◌, refl, sym, ap, ◌∙◌}
use mathlib.Core.List.{List, [], ◌++◌}
use Rattle.std.specs.Prelude.{Ok}
use Prim.Native.Nat.{ℕ, zero, suc, ◌≤◌, ◌<◌}
use native.Mathlib.Omega.{arith}
use borrow.Author.Tests.{le-leb, lt-leb, ltb-true, ltb-false}
use lib.Dec.{ltb}
use lib.ListN.{length, get_or, take}
use lib.Seq.{length-take-le}
use Rattle.three.proofs.Lists.{by_test}
use Rattle.circuit.specs.declared.Counts.{Counts}
use Rattle.circuit.specs.Refusal.{Test, refusal}
use Rattle.circuit.specs.RulesInCode.{Passed, Bounded}
use Rattle.circuit.specs.Table.{variables, ceiling_tests, kinds}
use Rattle.circuit.proofs.Refusals.{Numbered, stops, past, none, passes, none_past, refusal_append}
use Rattle.text.specs.Part.{got}
use Rattle.text.specs.Outcome.{Outcome, accepted, refused, tested, further, onward}
use Rattle.text.specs.OutcomeInCode.{after}
use Rattle.text.specs.Text.{Lines, header, counts_of, count_tests, ending_of}
use Rattle.text.proofs.Outcomes.{tested_stops, tested_past}
use Rattle.lines.specs.declared.read_line.ReadLine.{ReadLine}
use Rattle.lines.specs.LinesInCode.{from, numbers_of, LineFound}
use Rattle.lines.proofs.Finding.{line_got, line_ill_formed}
use Rattle.drawn.specs.Drawing.{Drawing}
use Rattle.drawn.specs.Lines.{any_header_tests, body_of, drawing, after_tests, read_drawing, read_any_ended, read_any, room_tests, read_any_into}
use Rattle.drawn.proofs.Reading.{drawing_lines, text_fits, any_header, accepted_small}
use Rattle.listing.specs.declared.Progress.{Progress}
use Rattle.listing.specs.ListingInCode.{BodyListed}
use Rattle.defined.specs.Places.{Spoken}
use Rattle.anyorder.proofs.Answering.{header_missing, all, after_numbered}

-- ---- the lines

module _ (ending : List ℕ) (most : ℕ) (c : Counts) (rest words names : List ℕ) where
  abbrev outcome : Outcome Drawing
  outcome = further (room_tests words names) (read_drawing ending most c rest)

  pub lines_refused : (n : ℕ) (l : Lines) → body_of ending most c rest ≡ after n (accepted l) → (n ≡ 0 → ⊥) → outcome ≡ refused n
  unfolding read_drawing further onward
  lines_refused zero l e z = absurd (z refl)
  lines_refused (suc n) l e z = rw e

  -- tests one behind the other
  tested_then : (ss : List Test) → Numbered ss → (ts : Drawing → List Test) (l : Lines) → further ts (onward (drawing most c) (tested ss (accepted l))) ≡ tested (ss ++ ts (drawing most c l)) (accepted (drawing most c l))
  unfolding tested further onward
  tested_then ss n ts l = go (refusal ss) refl
    where
      go : (k : ℕ) → k ≡ refusal ss → further ts (onward (drawing most c) (tested ss (accepted l))) ≡ tested (ss ++ ts (drawing most c l)) (accepted (drawing most c l))
      go zero h = ap (λ o. further ts (onward (drawing most c) o)) (tested_past ss (accepted l) h) ∙ ap (λ k. after k (accepted (drawing most c l))) (none_past ss (ts (drawing most c l)) n h refl)
      go (suc k) h = ap (λ o. further ts (onward (drawing most c) o)) (tested_stops ss (accepted l) h) ∙ sym (tested_stops (ss ++ ts (drawing most c l)) _ (refusal_append ss (ts (drawing most c l)) (sym h)))

  pub lines_read : (l : Lines) → body_of ending most c rest ≡ accepted l → outcome ≡ tested (all ending (drawing most c l) l.rest words names) (accepted (drawing most c l))
  lines_read l e = ap (further (room_tests words names)) (drawing_lines ending most c rest e) ∙ tested_then (after_tests ending (drawing most c l) l.rest) (after_numbered ending (drawing most c l) l.rest words names) (room_tests words names) l

-- ---- the lists that the lines are kept in

module _ {ending text : List ℕ} {at : ℕ} {c : Counts} {most : ℕ} {owns words owns' words' : List ℕ} {r : Progress} (b : BodyListed ending text at c most owns words (Ok r) owns' words') where
  pub lines_kept : Bounded c → 4095 ≤ length owns → r.line ≤ length owns'
  lines_kept f h = omega (arith, b.line refl, b.owns_long, f)

  pub words_kept : Bounded c → 7870 ≤ length words → r.word ≤ length words'
  words_kept f h = omega (arith, b.word refl, b.words_long, f)

  pub owns_enough : Bounded c → 4095 ≤ length owns → variables c ≤ length (take r.line owns')
  owns_enough f h = rw (length-take-le r.line owns' (lines_kept f h)) (omega (arith, b.line refl))

  pub spoken : Bounded c → 7870 ≤ length words → most < 8192 → Spoken c (take r.word words')
  spoken f h m = record {
    bounded = f;
    long = rw (length-take-le r.word words' (words_kept f h)) (omega (arith, b.word refl));
    literals = λ k l. accepted_small ending most (kinds c) _ m b.says k;
  }

-- ---- the text

module _ (text words names : List ℕ) {ending : List ℕ} (decided : ending_of text ≡ ending) where
  -- what the text is read as, with this ending
  pub read_so : {o : Outcome Drawing} → read_any_ended ending text ≡ o → read_any_into text words names ≡ further (room_tests words names) o
  unfolding read_any_into read_any
  read_so e = ap (further (room_tests words names)) (ap (λ end. read_any_ended end text) decided ∙ e)

  pub stops_at : {n : ℕ} → read_any_ended ending text ≡ refused n → read_any_into text words names ≡ refused n
  unfolding further
  stops_at e = read_so e

  pub too_long : 60000 < length text → read_any_into text words names ≡ refused 1
  unfolding read_any_ended
  too_long h = stops_at (tested_stops _ _ (stops _ [] (lt-leb (length text) 60000 h)))

  module _ (short : length text ≤ 60000) {l : ReadLine} (f : LineFound text (header ending text) l) where
    pub first_refused : {n : ℕ} → n ≡ refusal (any_header_tests (numbers_of l)) → (n ≡ 0 → ⊥) → read_any_into text words names ≡ refused n
    unfolding read_any_ended
    first_refused {n} e z = stops_at (tested_past _ _ (past _ [] (le-leb (length text) 60000 short) none) ∙ by_test (ltb 0 l.count)
        (λ b. rw (line_got l f (ltb-true 0 l.count b)) (go n e z _))
        (λ b. let y : l.count ≡ 0 = omega (arith, ltb-false 0 l.count b) in
        let two : n ≡ 2 = e ∙ sym (header_missing l y) in
        rw (line_ill_formed l f y, two)))
      where
        go : (n : ℕ) → n ≡ refusal (any_header_tests (numbers_of l)) → (n ≡ 0 → ⊥) → (o : Outcome Drawing) → tested (any_header_tests (numbers_of l)) o ≡ refused n
        go zero e z o = absurd (z refl)
        go (suc n) e z o = tested_stops (any_header_tests (numbers_of l)) _ e

    module _ (e : 0 ≡ refusal (any_header_tests (numbers_of l))) where
      header_numbered : Numbered (any_header_tests (numbers_of l))
      unfolding any_header_tests count_tests ceiling_tests
      header_numbered = omega arith

      passed : Passed (any_header_tests (numbers_of l))
      passed = passes (any_header_tests (numbers_of l)) header_numbered e

      first_got : header ending text ≡ got (numbers_of l) (from text l.next)
      first_got = by_test (ltb 0 l.count)
          (λ b. line_got l f (ltb-true 0 l.count b))
          (λ b. absurd (omega (arith, header_missing l (omega (arith, ltb-false 0 l.count b)))))

      module _ {c : Counts} (k : c ≡ counts_of (numbers_of l)) {m : ℕ} (given : m ≡ get_or (numbers_of l) 0 0) where
        pub first_bounded : Bounded c
        first_bounded = rw k (any_header (numbers_of l) passed).0

        pub first_most : m ≤ 4095
        first_most = rw given (any_header (numbers_of l) passed).1

        pub goes_on : read_any_into text words names ≡ further (room_tests words names) (read_drawing ending m c (from text l.next))
        goes_on = read_so (text_fits ending text short first_got passed ∙ rw (k, given))

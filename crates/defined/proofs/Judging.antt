-- Laws of 20, 21 and 22 in turn. Assumes nothing.
use mathlib.Core.Path.{◌≡◌, refl, sym, ◌∙◌}
use mathlib.Core.Bool.{Bool, true, false}
use mathlib.Core.List.{List, []}
use Prim.Native.Nat.{ℕ, ◌<◌}
use native.Mathlib.Omega.{arith}
use native.Mathlib.Decide.{dec_lt}
use lib.ListN.{get_or, replicate, length-replicate, get_or-replicate, get_or-eq_default}
use Rattle.three.specs.Lists.{every}
use Rattle.three.proofs.Lists.{every_ext}
use Rattle.circuit.specs.declared.Counts.{Counts}
use Rattle.circuit.specs.Table.{variables}
use Rattle.circuit.specs.Refusal.{◌or◌}
use Rattle.circuit.proofs.Refusals.{stops, past, none}
use Rattle.drawn.specs.Depth.{loopless}
use Rattle.drawn.specs.Drawing.{Drawing, lines, once, all_defined, drawing_tests, left_source, right_source}
use Rattle.defined.specs.Places.{held, Entered, Distinct, Judged, DrawingJudged}

-- an array of zeros
pub zeros_at : (n v : ℕ) → get_or (replicate {A = ℕ} n 0) v 0 ≡ 0
zeros_at n v = go (dec_lt v n)
  where
    go : Dec (v < n) → get_or (replicate {A = ℕ} n 0) v 0 ≡ 0
    go (yes h) = get_or-replicate n v 0 0 h
    go (no h) = get_or-eq_default (replicate n 0) 0 (let e = length-replicate {A = ℕ} n 0 in omega (arith, e))

module _ (most : ℕ) (c : Counts) (owns words places : List ℕ) where
  abbrev d : Drawing
  d = held most c owns words

  abbrev bare : Drawing
  bare = held most c owns []

  -- own literals alone decide 20
  once_same : every (variables c) (once bare) ≡ every (variables c) (once d)
  once_same = every_ext (variables c) (once bare) (once d) (λ k h. unfold once in refl)

  pub entered_words : Distinct bare true places → Entered d (variables c) places
  unfolding once
  entered_words s =
      let e = s.enters refl in
      record { within = e.within; long = e.long; none = e.none; some = e.some; good = e.good }

  pub entered_when : {r : Bool} → Distinct bare r places → r ≡ true → Entered d (variables c) places
  entered_when s z = entered_words (rw z at s)

  pub gives_20 : {r : Bool} (order : List ℕ) → Distinct bare r places → r ≡ false → DrawingJudged d 20 order
  unfolding drawing_tests
  gives_20 order s z = record { answers = stops (every (lines d) (once d) or 20) _ (sym once_same ∙ sym s.answers ∙ z); orders = λ e. absurd (omega arith) }

  once_holds : {r : Bool} → Distinct bare r places → r ≡ true → every (lines d) (once d) ≡ true
  once_holds s z = sym once_same ∙ sym s.answers ∙ z

  pub gives_21 : {r a : Bool} (order : List ℕ) → Distinct bare r places → r ≡ true → a ≡ all_defined d → a ≡ false → DrawingJudged d 21 order
  unfolding drawing_tests
  gives_21 order s z e f = record {
    answers = past (every (lines d) (once d) or 20) _ (once_holds s z) (stops (all_defined d or 21) _ (sym e ∙ f));
    orders = λ e. absurd (omega arith);
  }

  pub gives_22 : {r a l : Bool} (order : List ℕ) → Distinct bare r places → r ≡ true → a ≡ all_defined d → a ≡ true → Judged d l order → l ≡ false → DrawingJudged d 22 order
  unfolding drawing_tests
  gives_22 order s z e f j g = record {
    answers = past (every (lines d) (once d) or 20) _ (once_holds s z) (past (all_defined d or 21) _ (sym e ∙ f) (stops (loopless (left_source d) (right_source d) c.gates or 22) [] (sym j.answers ∙ g)));
    orders = λ e. absurd (omega arith);
  }

  pub gives_none : {r a l : Bool} (order : List ℕ) → Distinct bare r places → r ≡ true → a ≡ all_defined d → a ≡ true → Judged d l order → l ≡ true → DrawingJudged d 0 order
  unfolding drawing_tests
  gives_none order s z e f j g = record {
    answers = past (every (lines d) (once d) or 20) _ (once_holds s z) (past (all_defined d or 21) _ (sym e ∙ f) (past (loopless (left_source d) (right_source d) c.gates or 22) [] (sym j.answers ∙ g) none));
    orders = λ t. j.orders g;
  }

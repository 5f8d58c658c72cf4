-- What may be asked, by the gate rule: the operand that a gate at 0 is followed to is 0, those of a gate at 1 are 1, and all are below the gate's own literal. Assumes nothing.
use mathlib.Core.Path.{◌≡◌, sym, ap, ◌∙◌}
use mathlib.Core.Bool.{Bool, true, false, not}
use mathlib.Core.List.{List, [], ◌∷◌}
use Prim.Native.Nat.{ℕ, suc, ◌+◌, ◌*◌, ◌-◌, ◌/◌, ◌%◌, ◌<◌, ◌≤◌}
use native.Mathlib.Omega.{arith}
use borrow.Author.Tests.{leb-true, leb-false}
use lib.Dec.{leb}
use lib.ListN.{length, get_or}
use Rattle.three.specs.Value.{Three, unknown, low, high, both, ternary}
use Rattle.three.specs.Cube.{alike}
use Rattle.three.proofs.Lists.{and_parts, by_test}
use Rattle.three.proofs.Fields.{alike_same}
use Rattle.three.proofs.GateRule.{inverse_low, inverse_high, both_high, both_low, three_values}
use Rattle.circuit.specs.Circuit.{value}
use Rattle.circuit.proofs.LiteralValue.{value_even, value_upright}
use Rattle.pass.specs.ValuesInCode.{values_of}
use Rattle.asked.specs.AskedInCode.{gate_in}
use Rattle.asked.proofs.Leading.{low_left, low_right, high_both}
use Rattle.why.specs.MarksInCode.{marked, Closed, Followed, followed_in, Askable, Begun}
use Rattle.why.proofs.Following.{Marks, set_marks, ends_marked, ends_none}

-- ---- a literal that may be asked about

module _ (words : List ℕ) (at first : ℕ) (values : List ℕ) (x : ℕ) where
  pub askable_small : (a : Three) → Askable words at first values x a → x < 8192
  askable_small a k = omega (arith, k.gates.room)

  -- so may a smaller literal
  smaller : (a : Three) → Askable words at first values x a → (y : ℕ) (b : Three) → y ≤ x → value ternary (values_of values) y ≡ b → Askable words at first values y b
  smaller a k y b h e =
      let g = k.gates in
      record {
        gates = record { long = omega arith; room = omega arith; left = λ i l. g.left i (omega arith); right = λ i l. g.right i (omega arith) };
        working = k.working;
        settled = λ i l. k.settled i (omega arith);
        reads = e;
      }

  -- an inverted literal turns the question round
  module _ (odd : x % 2 ≡ 1) where
    pub turned_low : Askable words at first values x low → Askable words at first values (x - 1) high
    turned_low k = smaller low k (x - 1) high (omega arith) (inverse_low _ (sym (value_upright x odd (values_of values)) ∙ k.reads))

    pub turned_high : Askable words at first values x high → Askable words at first values (x - 1) low
    turned_high k = smaller high k (x - 1) low (omega arith) (inverse_high _ (sym (value_upright x odd (values_of values)) ∙ k.reads))

  -- a gate, by its own literal
  module _ (even : x % 2 ≡ 0) (gate : first ≤ x / 2) where
    abbrev left : ℕ
    left = get_or words (at + 2 * (x / 2 - first)) 0

    abbrev right : ℕ
    right = get_or words (at + 2 * (x / 2 - first) + 1) 0

    module _ (a : Three) (k : Askable words at first values x a) where
      entry : get_or (values_of values) (x / 2) low ≡ a
      entry = sym (value_even (values_of values) x even) ∙ k.reads

      rule : both (value ternary (values_of values) left) (value ternary (values_of values) right) ≡ a
      rule =
          let place : first + (x / 2 - first) ≡ x / 2 = omega arith in
          sym (k.settled (x / 2 - first) (omega arith)) ∙ ap (λ (v : ℕ). get_or (values_of values) v low) place ∙ entry

      pub left_below : left < x
      left_below = omega (arith, k.gates.left (x / 2 - first) (omega arith))

      -- as the code reads it
      pub left_small : {l : ℕ} → l ≡ left → l < 8192
      left_small e = omega (arith, left_below, askable_small a k)

      pub right_below : right < x
      right_below = omega (arith, k.gates.right (x / 2 - first) (omega arith))

    module _ (k : Askable words at first values x low) where
      pub first_is_low : alike (value ternary (values_of values) left) low ≡ true → followed_in words at first values (x / 2) ≡ left ∷ []
      first_is_low t = low_left first (gate_in words at) (values_of values) (x / 2) gate (entry low k) t

      pub first_is_not : alike (value ternary (values_of values) left) low ≡ false → followed_in words at first values (x / 2) ≡ right ∷ []
      first_is_not t = low_right first (gate_in words at) (values_of values) (x / 2) gate (entry low k) t

      -- the same of what the code reads and tests
      module _ {l : ℕ} {t : Bool} (read : l ≡ left) (test : t ≡ alike (value ternary (values_of values) l) low) where
        pub first_taken : t ≡ true → followed_in words at first values (x / 2) ≡ l ∷ []
        first_taken e = first_is_low (ap (λ r. alike (value ternary (values_of values) r) low) (sym read) ∙ sym test ∙ e) ∙ ap (λ r. r ∷ []) (sym read)

        pub second_taken : t ≡ false → {r : ℕ} → r ≡ right → followed_in words at first values (x / 2) ≡ r ∷ []
        second_taken e same = first_is_not (ap (λ r. alike (value ternary (values_of values) r) low) (sym read) ∙ sym test ∙ e) ∙ ap (λ r. r ∷ []) (sym same)

      -- the operand that a gate at 0 is followed to
      pub cause_asked : (r : ℕ) → followed_in words at first values (x / 2) ≡ r ∷ [] → (r < x) × Askable words at first values r low
      cause_asked r e = by_test (alike (value ternary (values_of values) left) low)
          (λ t. let same : left ≡ r = cc (first_is_low t) in rw (← same) (left_below low k, smaller low k left low (omega (arith, left_below low k)) (alike_same _ _ t)))
          (λ t. let same : right ≡ r = cc (first_is_not t) in rw (← same) (right_below low k, smaller low k right low (omega (arith, right_below low k)) (both_low _ _ (rule low k) t)))

    module _ (k : Askable words at first values x high) where
      pub both_followed : followed_in words at first values (x / 2) ≡ left ∷ right ∷ []
      both_followed = high_both first (gate_in words at) (values_of values) (x / 2) gate (entry high k)

      pub left_asked : Askable words at first values left high
      left_asked = smaller high k left high (omega (arith, left_below high k)) (both_high _ _ (rule high k)).0

      pub right_asked : Askable words at first values right high
      right_asked = smaller high k right high (omega (arith, right_below high k)) (both_high _ _ (rule high k)).1

-- ---- a known value is 0 or 1

module _ (words : List ℕ) (at first : ℕ) (values : List ℕ) (x : ℕ) (k : Askable words at first values x (value ternary (values_of values) x)) {t : Bool}
    (test : t ≡ alike (value ternary (values_of values) x) low) where
  pub asked_low : t ≡ true → Askable words at first values x low
  asked_low e = rw (alike_same _ low (sym test ∙ e)) at k

  pub asked_high : t ≡ false → (value ternary (values_of values) x ≡ unknown → ⊥) → Askable words at first values x high
  asked_high e known = rw (three_values _ (sym test ∙ e) known) at k

-- ---- marking

module _ (first v : ℕ) (marks marks' : List Bool) (h : v < length marks) where
  module _ {r : Bool} (b : Begun first v marks marks' r) where
    pub begun_marks : Marks (marked marks) (marked marks') v
    begun_marks = rw b.sets (set_marks marks v h)

    -- a gate that was not yet followed
    pub begun_gate : r ≡ true → first ≤ v
    begun_gate t = leb-true first v (and_parts (not (marked marks v)) (leb first v) (sym b.answers ∙ t)).1

    -- nothing is left to follow
    pub begun_done : (follows : ℕ → List ℕ) → (v < first → follows v ≡ []) → r ≡ false → Closed follows (suc v) (marked marks) → Followed follows (marked marks) (marked marks') v
    begun_done follows none f c = by_test (marked marks v)
        (λ t. ends_marked follows c begun_marks t)
        (λ t. ends_none follows c begun_marks (none (leb-false first v (rw t at (sym b.answers ∙ f)))))

    -- whatever is marked besides: a variable that was begun is not followed again
    pub never_twice : (later later' : List Bool) {r' : Bool} → ((u : ℕ) → marked marks' u ≡ true → marked later u ≡ true) → Begun first v later later' r' → r' ≡ false
    never_twice later later' kept b' = b'.answers ∙ rw (kept v begun_marks.has)

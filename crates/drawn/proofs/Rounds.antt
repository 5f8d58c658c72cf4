-- Rounds give the order: after n of them exactly the gates of depth at most n have a number, in order. Assumes nothing.
use mathlib.Core.Path.{◌≡◌, refl, sym, ap, ap₂, ◌∙◌}
use mathlib.Core.Bool.{Bool, true, false, not, ◌&&◌, false≢true}
use mathlib.Core.List.{List, [], ◌∷◌, ◌++◌}
use Prim.Native.Nat.{ℕ, zero, suc, ◌<◌, ◌≤◌, max}
use native.Mathlib.Nat.{le-max_left, le-max_right, max-le, le_of_suc-le-suc, not-suc-le-zero}
use native.Mathlib.Omega.{arith}
use borrow.Author.Tests.{leb-true, leb-false, eqb-true, not-true, le-leb, lt-leb, eq-eqb, ne_eqb}
use lib.Dec.{leb, eqb}
use lib.ListN.{length, get_or}
use Rattle.three.proofs.Lists.{by_test, iff, and_parts}
use Rattle.drawn.specs.Numbers.{pick, by_key}
use Rattle.drawn.specs.Depth.{Source, leaf, gate, depth, deep, order}
use Rattle.drawn.specs.DepthInCode.{among, numbered, round, rounds}
use Rattle.drawn.proofs.Loops.{depth_gate, depth_leaf}
use Rattle.drawn.proofs.Sorting.{sorted_items, sorted_stands}
use Rattle.drawn.proofs.Picking.{Stands}

-- ---- pick

pub pick_ext : (n : ℕ) (p q : ℕ → Bool) → ((i : ℕ) → i < n → p i ≡ q i) → pick n p ≡ pick n q
unfolding pick
pick_ext zero p q h = refl
pick_ext (suc n) p q h = ap₂ (λ (xs : List ℕ) (b : Bool). xs ++ elim b [ true ↦ n ∷ [] | false ↦ [] ]) (pick_ext n p q (λ i l. h i (omega arith))) (h n (omega arith))

pick_none : (n : ℕ) (p : ℕ → Bool) → ((i : ℕ) → i < n → p i ≡ false) → pick n p ≡ []
unfolding pick
pick_none zero p h = refl
pick_none (suc n) p h = ap₂ (λ (xs : List ℕ) (b : Bool). xs ++ elim b [ true ↦ n ∷ [] | false ↦ [] ]) (pick_none n p (λ i l. h i (omega arith))) (h n (omega arith))

-- ---- tests of numbers

leb_max : (a b n : ℕ) → leb (max a b) n ≡ (leb a n && leb b n)
leb_max a b n = iff (leb (max a b) n) (leb a n && leb b n)
    (λ e. let h = leb-true (max a b) n e in rw (le-leb a n (omega (arith, h, le-max_left a b)), le-leb b n (omega (arith, h, le-max_right a b))))
    (λ e. let p = and_parts (leb a n) (leb b n) e in le-leb (max a b) n (max-le (leb-true a n p.0) (leb-true b n p.1)))

newly : (m n : ℕ) → (not (leb (suc m) n) && leb m n) ≡ eqb (suc m) (suc n)
newly m n = iff (not (leb (suc m) n) && leb m n) (eqb (suc m) (suc n))
    (λ e. let p = and_parts (not (leb (suc m) n)) (leb m n) e in eq-eqb (suc m) (suc n) (omega (arith, leb-false (suc m) n (not-true (leb (suc m) n) p.0), leb-true m n p.1)))
    (λ e. let h = eqb-true (suc m) (suc n) e in rw (lt-leb (suc m) n (omega (arith, h)), le-leb m n (omega (arith, h))))

module _ (left right : ℕ → Source) where
  -- ---- among

  among_stands : (i : ℕ) (xs : List ℕ) → among left right i xs ≡ true → Stands i xs
  unfolding among
  among_stands i [] e = absurd (false≢true e)
  among_stands i (x ∷ xs) e = by_test (eqb i x)
      (λ h. record { at = 0; within = omega arith; is = sym (eqb-true i x h) })
      (λ h. let s = among_stands i xs (rw (among, h) at e) in record { at = suc s.at; within = omega (arith, s.within); is = s.is })

  stands_among : (i : ℕ) (xs : List ℕ) (q : ℕ) → q < length xs → get_or xs q 0 ≡ i → among left right i xs ≡ true
  unfolding among
  stands_among i [] q h e = absurd (not-suc-le-zero h)
  stands_among i (x ∷ xs) zero h e = rw (among, eq-eqb i x (sym e))
  stands_among i (x ∷ xs) (suc q) h e = by_test (eqb i x) (λ t. rw (among, t)) (λ t. rw (among, t) (stands_among i xs q (le_of_suc-le-suc h) e))

  module _ (count : ℕ) (left_below : (i k : ℕ) → i < count → left i ≡ gate k → k < count) (right_below : (i k : ℕ) → i < count → right i ≡ gate k → k < count)
      (shallow : (i : ℕ) → i < count → deep left right count i ≤ count) where
    -- the gates of depth at most n
    abbrev up_to : ℕ → List ℕ
    up_to n = by_key count (deep left right count) (suc n)

    among_up_to : (n i : ℕ) → i < count → among left right i (up_to n) ≡ leb (deep left right count i) n
    among_up_to n i h = iff (among left right i (up_to n)) (leb (deep left right count i) n)
        (λ e. let s = among_stands i (up_to n) e in
        let f = sorted_items count (deep left right count) (suc n) s.at s.within in
        le-leb (deep left right count i) n (omega (arith, f.1, ap (deep left right count) s.is)))
        (λ e. let s = sorted_stands count (deep left right count) (suc n) i h (omega (arith, leb-true (deep left right count i) n e)) in
        stands_among i (up_to n) s.at s.within s.is)

    numbered_up_to : (n : ℕ) (s : Source) → ((k : ℕ) → s ≡ gate k → k < count) → numbered left right (up_to n) s ≡ leb (depth left right (suc count) s) n
    unfolding numbered deep
    numbered_up_to n leaf h = sym (le-leb (depth left right (suc count) leaf) n (omega (arith, depth_leaf left right (suc count))))
    numbered_up_to n (gate k) h = among_up_to n k (h k refl)

    -- the gates that a round numbers are those of the next depth
    round_picks : (n i : ℕ) → i < count
        → (not (among left right i (up_to n)) && (numbered left right (up_to n) (left i) && numbered left right (up_to n) (right i))) ≡ eqb (deep left right count i) (suc n)
    unfolding deep
    round_picks n i h =
        let a : ℕ = depth left right (suc count) (left i) in
        let b : ℕ = depth left right (suc count) (right i) in
        let d : depth left right (suc count) (gate i) ≡ suc (max a b) = depth_gate left right (suc count) i (omega (arith, shallow i h)) in
        let both : (numbered left right (up_to n) (left i) && numbered left right (up_to n) (right i)) ≡ leb (max a b) n =
        ap₂ (λ (x y : Bool). x && y) (numbered_up_to n (left i) (λ k. left_below i k h)) (numbered_up_to n (right i) (λ k. right_below i k h)) ∙ sym (leb_max a b n) in
        ap₂ (λ (x y : Bool). not x && y) (among_up_to n i h ∙ ap (λ (m : ℕ). leb m n) d) both ∙ newly (max a b) n ∙ ap (λ (m : ℕ). eqb m (suc n)) (sym d)

    pub rounds_up_to : (n : ℕ) → rounds left right count n ≡ up_to n
    unfolding rounds round by_key
    rounds_up_to zero = sym (pick_none count (λ i. eqb (deep left right count i) 0) (λ i h. ne_eqb (deep left right count i) 0 (λ e. positive i h e)))
      where
        positive : (i : ℕ) → i < count → deep left right count i ≡ 0 → ⊥
        positive i h e = unfold deep in
            let d = depth_gate left right (suc count) i (omega (arith, shallow i h)) in omega (arith, e, d)
    rounds_up_to (suc n) =
        ap (λ (done : List ℕ). done ++ pick count (λ i. not (among left right i done) && (numbered left right done (left i) && numbered left right done (right i)))) (rounds_up_to n)
        ∙ ap (λ (new : List ℕ). up_to n ++ new) (pick_ext count _ (λ i. eqb (deep left right count i) (suc n)) (λ i h. round_picks n i h))

    -- as many rounds as there are gates give all of them, by depth and then in file order
    pub rounds_order : rounds left right count count ≡ order left right count
    unfolding order
    rounds_order = rounds_up_to count

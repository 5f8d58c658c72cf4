-- Depth, loops and order hang on the operands of the gates below the count alone. Assumes nothing.
use mathlib.Core.Path.{◌≡◌, refl, ap, ap₂, ◌∙◌}
use mathlib.Core.List.{List, ◌++◌}
use Prim.Native.Nat.{ℕ, zero, suc, ◌<◌, max}
use native.Mathlib.Omega.{arith}
use lib.Dec.{leb, eqb}
use Rattle.three.proofs.Lists.{every_ext}
use Rattle.drawn.specs.Numbers.{by_key}
use Rattle.drawn.specs.Depth.{Source, leaf, gate, depth, deep, loopless, order}
use Rattle.drawn.proofs.Rounds.{pick_ext}

pub by_key_ext : (n : ℕ) (f g : ℕ → ℕ) (d : ℕ) → ((i : ℕ) → i < n → f i ≡ g i) → by_key n f d ≡ by_key n g d
unfolding by_key
by_key_ext n f g zero h = refl
by_key_ext n f g (suc d) h = ap₂ (λ (xs ys : List ℕ). xs ++ ys) (by_key_ext n f g d h) (pick_ext n (λ i. eqb (f i) d) (λ i. eqb (g i) d) (λ i l. ap (λ (k : ℕ). eqb k d) (h i l)))

module _ (l r l' r' : ℕ → Source) (count : ℕ) (lefts : (i : ℕ) → i < count → l i ≡ l' i) (rights : (i : ℕ) → i < count → r i ≡ r' i)
    (left_below : (i k : ℕ) → i < count → l i ≡ gate k → k < count) (right_below : (i k : ℕ) → i < count → r i ≡ gate k → k < count) where
  depth_same : (n : ℕ) (s : Source) → ((k : ℕ) → s ≡ gate k → k < count) → depth l r n s ≡ depth l' r' n s
  unfolding depth
  depth_same zero s h = refl
  depth_same (suc n) leaf h = refl
  depth_same (suc n) (gate i) h =
      let few = h i refl in
      ap₂ (λ (a b : ℕ). suc (max a b))
      (depth_same n (l i) (λ k. left_below i k few) ∙ ap (depth l' r' n) (lefts i few))
      (depth_same n (r i) (λ k. right_below i k few) ∙ ap (depth l' r' n) (rights i few))

  gate_same : {i k : ℕ} → gate i ≡ gate k → i ≡ k
  gate_same e = cc

  pub deep_same : (i : ℕ) → i < count → deep l r count i ≡ deep l' r' count i
  unfolding deep
  deep_same i h = depth_same (suc count) (gate i) (λ k e. let same : i ≡ k = gate_same e in omega (arith, same, h))

  pub loopless_same : loopless l r count ≡ loopless l' r' count
  unfolding loopless
  loopless_same = every_ext count (λ i. leb (deep l r count i) count) (λ i. leb (deep l' r' count i) count) (λ i h. ap (λ (n : ℕ). leb n count) (deep_same i h))

  pub order_same : order l r count ≡ order l' r' count
  unfolding order
  order_same = by_key_ext count (deep l r count) (deep l' r' count) (suc count) deep_same

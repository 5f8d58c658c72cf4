-- Laws of lists of pairs laid flat, and of three lists one behind the other. Assumes nothing.
use mathlib.Core.Path.{◌≡◌, ◌∙◌}
use mathlib.Core.List.{List, ◌++◌}
use Prim.Native.Nat.{ℕ, ◌+◌, ◌*◌, ◌/◌, ◌%◌, ◌<◌}
use native.Mathlib.Omega.{arith}
use lib.ListN.{length, get_or, get_or-append}
use Rattle.three.proofs.Lists.{length_tabulate, get_or_tabulate}
use Rattle.drawn.specs.Numbers.{pairs}
use Rattle.drawn.proofs.Picking.{get_or_behind}

-- ---- pairs

module _ (n : ℕ) (f g : ℕ → ℕ) where
  pub length_pairs : length (pairs n f g) ≡ 2 * n
  unfolding pairs
  length_pairs = length_tabulate (2 * n) _

  pub pairs_left : (i : ℕ) → i < n → get_or (pairs n f g) (2 * i) 0 ≡ f i
  unfolding pairs
  pairs_left i h =
      let a : 2 * i % 2 ≡ 0 = omega arith in
      let b : 2 * i / 2 ≡ i = omega arith in
      get_or_tabulate (2 * n) _ (2 * i) 0 (omega arith) ∙ rw (a, b)

  pub pairs_right : (i : ℕ) → i < n → get_or (pairs n f g) (2 * i + 1) 0 ≡ g i
  unfolding pairs
  pairs_right i h =
      let a : (2 * i + 1) % 2 ≡ 1 = omega arith in
      let b : (2 * i + 1) / 2 ≡ i = omega arith in
      get_or_tabulate (2 * n) _ (2 * i + 1) 0 (omega arith) ∙ rw (a, b)

-- ---- three lists, one behind the other

module _ (xs ys zs : List ℕ) where
  abbrev whole : List ℕ
  whole = xs ++ (ys ++ zs)

  pub first_part : (i : ℕ) → i < length xs → get_or whole i 0 ≡ get_or xs i 0
  first_part i h = get_or-append xs (ys ++ zs) 0 i h

  pub second_part : (k i : ℕ) → k ≡ length xs + i → i < length ys → get_or whole k 0 ≡ get_or ys i 0
  second_part k i e h = rw e (get_or_behind xs (ys ++ zs) i 0 ∙ get_or-append ys zs 0 i h)

  pub third_part : (k i : ℕ) → k ≡ length xs + (length ys + i) → get_or whole k 0 ≡ get_or zs i 0
  third_part k i e = rw e (get_or_behind xs (ys ++ zs) (length ys + i) 0 ∙ get_or_behind ys zs i 0)

-- Laws of numbers as they are written: from the last digit, and how long they are. Assumes nothing.
use mathlib.Core.Path.{◌≡◌, refl, sym}
use mathlib.Core.List.{[], ◌∷◌, ◌++◌}
use Prim.Native.Nat.{ℕ, zero, suc, ◌+◌, ◌/◌, ◌%◌, ◌^◌, ◌≤◌, ◌<◌}
use native.Mathlib.Nat.{pow-suc}
use native.Mathlib.Omega.{arith}
use borrow.Author.Tests.{ltb-true, ltb-false, lt-ltb, le-ltb}
use lib.Dec.{ltb}
use lib.ListN.{length, length-append}
use Rattle.three.proofs.Lists.{by_test}
use Rattle.text.specs.Decimal.{digits, decimal}

-- ---- decimal, from its last digit

digits_small : (fuel n : ℕ) → n < 10 → digits fuel n ≡ (48 + n) ∷ []
unfolding digits
digits_small zero n h = refl
digits_small (suc fuel) n h = rw (lt-ltb n 10 h, digits)

-- more fuel than the number itself changes nothing
digits_enough : (k j n : ℕ) → n ≤ k → n ≤ j → digits k n ≡ digits j n
unfolding digits
digits_enough zero j n p q = sym (digits_small j n (omega arith))
digits_enough (suc k) zero n p q = digits_small (suc k) n (omega arith)
digits_enough (suc k) (suc j) n p q = by_test (ltb n 10)
    (λ e. rw (e, digits))
    (λ e. rw (e, digits, digits_enough k j (n / 10) (omega (arith, ltb-false)) (omega (arith, ltb-false))))

pub decimal_small : (n : ℕ) → n < 10 → decimal n ≡ (48 + n) ∷ []
unfolding decimal
decimal_small n h = digits_small n n h

pub decimal_more : (n : ℕ) → 10 ≤ n → decimal n ≡ decimal (n / 10) ++ ((48 + n % 10) ∷ [])
unfolding decimal digits
decimal_more zero h = absurd (omega arith)
decimal_more (suc n) h = rw (le-ltb (suc n) 10 h, digits, digits_enough n (suc n / 10) (suc n / 10) (omega arith) (omega arith))

-- what holds of one digit, and of n where it holds of n / 10, holds of every number
pub by_digits {ℓ} : (P : ℕ → Type ℓ) → ((n : ℕ) → n < 10 → P n) → ((n : ℕ) → 10 ≤ n → P (n / 10) → P n) → (n : ℕ) → P n
by_digits P one more n = go n n (omega arith)
  where
    go : (fuel n : ℕ) → n ≤ fuel → P n
    go zero n h = one n (omega arith)
    go (suc fuel) n h = by_test (ltb n 10) (λ e. one n (ltb-true n 10 e)) (λ e. more n (ltb-false n 10 e) (go fuel (n / 10) (omega (arith, ltb-false n 10 e))))

-- ---- how long it is

pub length_small : (n : ℕ) → n < 10 → length (decimal n) ≡ 1
length_small n h = rw (decimal_small n h)

pub length_more : (n : ℕ) → 10 ≤ n → length (decimal n) ≡ length (decimal (n / 10)) + 1
length_more n h = rw (decimal_more n h, length-append)

pub length_below : (k n : ℕ) → n < 10 ^ suc k → length (decimal n) ≤ suc k
length_below zero n h = rw (length_small n h) (omega arith)
length_below (suc k) n h = by_test (ltb n 10)
    (λ e. rw (length_small n (ltb-true n 10 e)) (omega arith))
    (λ e. rw (length_more n (ltb-false n 10 e)) (omega (arith, length_below k (n / 10) (omega (arith, rw (pow-suc 10 (suc k)) at h)))))

-- a larger number is not shorter
pub length_monotone : (n m : ℕ) → n ≤ m → length (decimal n) ≤ length (decimal m)
length_monotone = by_digits (λ n. (m : ℕ) → n ≤ m → length (decimal n) ≤ length (decimal m))
    (λ n h m p. rw (length_small n h) (by_test (ltb m 10)
    (λ e. rw (length_small m (ltb-true m 10 e)) (omega arith))
    (λ e. rw (length_more m (ltb-false m 10 e)) (omega arith))))
    (λ n h on m p. omega (arith, length_more n h, length_more m (omega arith), on (m / 10) (omega arith)))

-- The first number below a bound at which a test holds, and a number at which a test of all fails. Assumes nothing.
use mathlib.Core.Path.{◌≡◌, refl, ap}
use mathlib.Core.Bool.{Bool, true, false, true≢false}
use Prim.Native.Nat.{ℕ, zero, suc, ◌<◌, ◌≤◌, suc-le-suc}
use native.Mathlib.Nat.{le_of_suc-le-suc, not-suc-le-zero}
use native.Mathlib.Omega.{arith}
use Rattle.three.specs.Lists.{every, first}
use Rattle.three.proofs.Lists.{by_test}

pub first_le : (n : ℕ) (p : ℕ → Bool) → first n p ≤ n
unfolding first
first_le zero p = omega arith
first_le (suc n) p = by_test (p 0) (λ h. rw (first, h) (omega arith)) (λ h. rw (first, h) (omega (arith, first_le n (λ i. p (suc i)))))

pub first_holds : (n : ℕ) (p : ℕ → Bool) → first n p < n → p (first n p) ≡ true
unfolding first
first_holds zero p h = absurd (not-suc-le-zero h)
first_holds (suc n) p h = by_test (p 0)
    (λ e. rw (first, e) e)
    (λ e. rw (first, e) (first_holds n (λ i. p (suc i)) (le_of_suc-le-suc (rw (first, e) at h))))

-- where it holds at i, the first is no later
pub first_finds : (n : ℕ) (p : ℕ → Bool) (i : ℕ) → i < n → p i ≡ true → first n p ≤ i
unfolding first
first_finds zero p i h e = absurd (not-suc-le-zero h)
first_finds (suc n) p zero h e = rw (first, e) (omega arith)
first_finds (suc n) p (suc i) h e = by_test (p 0)
    (λ q. rw (first, q) (omega arith))
    (λ q. rw (first, q) (omega (arith, first_finds n (λ i. p (suc i)) i (le_of_suc-le-suc h) e)))

-- where it holds at i alone, i is the first
pub first_only : (n : ℕ) (p : ℕ → Bool) (i : ℕ) → i < n → p i ≡ true → ((k : ℕ) → k < n → p k ≡ true → k ≡ i) → first n p ≡ i
first_only n p i h e only = let l = first_finds n p i h e in only (first n p) (omega (arith, l)) (first_holds n p (omega (arith, l)))

pub first_at : (n : ℕ) (p : ℕ → Bool) (k : ℕ) → k < n → p k ≡ true → ((m : ℕ) → m < k → p m ≡ false) → first n p ≡ k
unfolding first
first_at zero p k h e none = absurd (not-suc-le-zero h)
first_at (suc n) p zero h e none = rw (first, e)
first_at (suc n) p (suc k) h e none =
    rw (first, none 0 (omega arith)) (ap suc (first_at n (λ i. p (suc i)) k (le_of_suc-le-suc h) e (λ m l. none (suc m) (suc-le-suc l))))

pub first_none : (n : ℕ) (p : ℕ → Bool) → ((m : ℕ) → m < n → p m ≡ false) → first n p ≡ n
unfolding first
first_none zero p none = refl
first_none (suc n) p none = rw (first, none 0 (omega arith)) (ap suc (first_none n (λ i. p (suc i)) (λ m l. none (suc m) (suc-le-suc l))))

-- and back: where none is found it holds nowhere
pub first_nowhere : (n : ℕ) (p : ℕ → Bool) → n ≤ first n p → (m : ℕ) → m < n → p m ≡ false
unfolding first
first_nowhere zero p h m l = absurd (not-suc-le-zero l)
first_nowhere (suc n) p h zero l = by_test (p 0) (λ e. absurd (not-suc-le-zero (rw (first, e) at h))) (λ e. e)
first_nowhere (suc n) p h (suc m) l =
    by_test (p 0)
    (λ e. absurd (not-suc-le-zero (rw (first, e) at h)))
    (λ e. first_nowhere n (λ i. p (suc i)) (le_of_suc-le-suc (rw (first, e) at h)) m (le_of_suc-le-suc l))

-- tests that agree below n
pub first_ext : (n : ℕ) (p q : ℕ → Bool) → ((k : ℕ) → k < n → p k ≡ q k) → first n p ≡ first n q
unfolding first
first_ext zero p q h = refl
first_ext (suc n) p q h = by_test (q 0)
    (λ e. rw (first, h 0 (omega arith), e))
    (λ e. rw (first, h 0 (omega arith), e) (ap suc (first_ext n (λ i. p (suc i)) (λ i. q (suc i)) (λ k l. h (suc k) (suc-le-suc l)))))

-- a number at which the test fails
pub failing : (n : ℕ) (p : ℕ → Bool) → every n p ≡ false → (i : ℕ) × (i < n) × (p i ≡ false)
unfolding every
failing zero p e = absurd (true≢false e)
failing (suc n) p e = by_test (p 0)
    (λ h. let r = failing n (λ i. p (suc i)) (rw h at e) in (suc r.0, suc-le-suc r.1, r.2))
    (λ h. (0, omega arith, h))

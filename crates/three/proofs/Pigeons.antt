-- More numbers than places: two of them are equal. Assumes nothing.
use mathlib.Core.Path.{◌≡◌, sym, ◌∙◌, ap}
use mathlib.Core.Bool.{false, cond}
use Prim.Native.Nat.{ℕ, zero, suc, ◌<◌, ◌≤◌}
use native.Mathlib.Decide.{dec_lt}
use native.Mathlib.Omega.{arith}
use borrow.Author.Tests.{eqb-true, eqb-false}
use lib.Dec.{eqb}
use Rattle.three.proofs.Lists.{by_test}

-- two of the numbers f 0 to f n are equal
pub record Twice (f : ℕ → ℕ) (n : ℕ) : Type 0 where
  pub i : ℕ
  pub j : ℕ
  pub order : i < j
  pub within : j ≤ n
  pub same : f i ≡ f j

-- one of f 0 to f (n − 1) is x, or none is
data Sought (f : ℕ → ℕ) (x n : ℕ) : Type 0 where
  found : (i : ℕ) → i < n → f i ≡ x → Sought f x n
  missing : ((i : ℕ) → i < n → f i ≡ x → ⊥) → Sought f x n

sought : (f : ℕ → ℕ) (x n : ℕ) → Sought f x n
sought f x zero = missing (λ i h e. omega arith)
sought f x (suc n) = go (sought f x n)
  where
    go : Sought f x n → Sought f x (suc n)
    go (found i h e) = found i (omega arith) e
    go (missing none) = by_test (eqb (f n) x)
        (λ e. found n (omega arith) (eqb-true (f n) x e))
        (λ e. missing (λ i h q. last i (dec_lt i n) h q e))
      where
        last : (i : ℕ) → Dec (i < n) → i < suc n → f i ≡ x → eqb (f n) x ≡ false → ⊥
        last i (yes l) h q e = none i l q
        last i (no l) h q e = let same : i ≡ n = omega arith in eqb-false (f n) x e (ap f (sym same) ∙ q)

-- f with the value n moved to the place y
moved : (ℕ → ℕ) → ℕ → ℕ → ℕ → ℕ
moved f n y i = cond (eqb (f i) n) y (f i)

moved_small : (f : ℕ → ℕ) (n y i : ℕ) → f i < suc n → y < suc n → (f i ≡ n → y ≡ n → ⊥) → moved f n y i < n
unfolding moved
moved_small f n y i h k apart = by_test (eqb (f i) n)
    (λ e. let z = eqb-true (f i) n e in rw e (omega (arith, apart z)))
    (λ e. let z = eqb-false (f i) n e in rw e (omega arith))

moved_same : (f : ℕ → ℕ) (n y i j : ℕ) → (f i ≡ y → ⊥) → (f j ≡ y → ⊥) → moved f n y i ≡ moved f n y j → f i ≡ f j
unfolding moved
moved_same f n y i j p q e = by_test (eqb (f i) n)
    (λ a. by_test (eqb (f j) n)
    (λ b. eqb-true (f i) n a ∙ sym (eqb-true (f j) n b))
    (λ b. absurd (q (sym (rw (a, b) at e)))))
    (λ a. by_test (eqb (f j) n)
    (λ b. absurd (p (rw (a, b) at e)))
    (λ b. rw (a, b) at e))

pub pigeons : (n : ℕ) (f : ℕ → ℕ) → ((i : ℕ) → i ≤ n → f i < n) → Twice f n
pigeons zero f small = absurd (let h = small 0 (omega arith) in omega arith)
pigeons (suc n) f small = go (sought f (f (suc n)) (suc n)) (pigeons n (moved f n (f (suc n))))
  where
    go : Sought f (f (suc n)) (suc n) → (((i : ℕ) → i ≤ n → moved f n (f (suc n)) i < n) → Twice (moved f n (f (suc n))) n) → Twice f (suc n)
    go (found i h e) rest = record { i = i; j = suc n; order = h; within = omega arith; same = e }
    go (missing none) rest =
        let t = rest (λ i h. moved_small f n (f (suc n)) i (small i (omega arith)) (small (suc n) (omega arith)) (λ a b. none i (omega arith) (a ∙ sym b))) in
        record { i = t.i; j = t.j; order = t.order; within = omega (arith, t.within); same = moved_same f n (f (suc n)) t.i t.j (none t.i (omega (arith, t.order, t.within))) (none t.j (omega (arith, t.within))) t.same }

-- Laws of the values under the gate rule and inversion. Assumes nothing.
use mathlib.Core.Path.{◌≡◌, refl, sym, ap, ◌∙◌}
use mathlib.Core.Bool.{true, false, ◌&&◌, cond, false≢true}
use Prim.Native.Nat.{ℕ}
use native.Mathlib.Omega.{arith}
use borrow.Author.Tests.{eq-eqb}
use lib.Dec.{eqb}
use Rattle.three.specs.Value.{Three, unknown, low, high, code, both, inverse}
use Rattle.three.specs.Cube.{alike}
use Rattle.three.proofs.Lists.{and_parts}
use Rattle.three.proofs.Fields.{alike_same, of_one, of_two}

-- ---- a value that is 0 or 1 is not X

pub low_known : (a : Three) → a ≡ low → a ≡ unknown → ⊥
unfolding code
low_known a e u = let z : ◌≡◌ {A = ℕ} 1 0 = ap code (sym e ∙ u) in omega arith

pub high_known : (a : Three) → a ≡ high → a ≡ unknown → ⊥
unfolding code
high_known a e u = let z : ◌≡◌ {A = ℕ} 2 0 = ap code (sym e ∙ u) in omega arith

pub three_values : (a : Three) → alike a low ≡ false → (a ≡ unknown → ⊥) → a ≡ high
unfolding alike code
three_values unknown t known = absurd (known refl)
three_values low t known = absurd (false≢true (sym t))
three_values high t known = refl

pub code_unknown : (a : Three) → code a ≡ 0 → a ≡ unknown
unfolding alike code
code_unknown a e = alike_same a unknown (eq-eqb (code a) 0 e)

-- ---- inversion

pub inverse_low : (a : Three) → inverse a ≡ low → a ≡ high
unfolding inverse alike code
inverse_low a e = alike_same _ _ (rw (ap code e) at (of_one (λ a. cond (alike (inverse a) low) (alike a high) true) refl a))

pub inverse_high : (a : Three) → inverse a ≡ high → a ≡ low
unfolding inverse alike code
inverse_high a e = alike_same _ _ (rw (ap code e) at (of_one (λ a. cond (alike (inverse a) high) (alike a low) true) refl a))

pub inverse_unknown : (a : Three) → inverse a ≡ unknown → a ≡ unknown
unfolding inverse alike code
inverse_unknown a e = alike_same _ _ (rw (ap code e) at (of_one (λ a. cond (alike (inverse a) unknown) (alike a unknown) true) refl a))

-- 0 read inverted is the code 2
pub inverse_code : (a : Three) → eqb (code a) 2 ≡ alike (inverse a) low
unfolding inverse alike code
inverse_code unknown = refl
inverse_code low = refl
inverse_code high = refl

-- ---- the gate rule

-- a gate at 1 has both operands at 1
pub both_high : (a b : Three) → both a b ≡ high → (a ≡ high) × (b ≡ high)
unfolding both alike code
both_high a b e =
    let t : (alike a high && alike b high) ≡ true = rw (ap code e) at (of_two (λ a b. cond (alike (both a b) high) (alike a high && alike b high) true) refl a b) in
    let parts = and_parts (alike a high) (alike b high) t in
    (alike_same _ _ parts.0, alike_same _ _ parts.1)

-- a gate at 0 whose first operand is not 0
pub both_low : (a b : Three) → both a b ≡ low → alike a low ≡ false → b ≡ low
unfolding both alike code
both_low a b e f = alike_same _ _ (rw (ap code e, f) at (of_two (λ a b. cond (alike (both a b) low) (cond (alike a low) true (alike b low)) true) refl a b))

pub low_second : (a : Three) → both a low ≡ low
unfolding both alike code
low_second a = alike_same _ _ (of_one (λ a. alike (both a low) low) refl a)

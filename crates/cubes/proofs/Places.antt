-- Laws of `place`, the cube for a tick: the ticks below n have their own, and after cube n − 1 comes cube j; and of `onward`, the cube that comes after. Assumes nothing.
use mathlib.Core.Path.{◌≡◌}
use Prim.Native.Nat.{ℕ, suc, ◌+◌, ◌-◌, ◌%◌, ◌≤◌, ◌<◌}
use native.Mathlib.Nat.{suc-mod, mod-lt, mod-eq_of_lt, mod_self}
use native.Mathlib.Decide.{dec_lt}
use native.Mathlib.Omega.{arith}
use borrow.Author.Tests.{lt-ltb, le-ltb}
use Rattle.cubes.specs.OutcomesInCode.{place}
use Rattle.cubes.specs.Given.{onward}

pub place_early : (n j t : ℕ) → j < n → t < n → place n j t ≡ t
unfolding place
place_early n j t below early = let small : t - j < n - j = omega arith in rw (mod-eq_of_lt small) (omega arith)

-- from tick j on; the specification (5.10) says it of the ticks from n on
pub place_late : (n j t : ℕ) → j ≤ t → place n j t ≡ j + (t - j) % (n - j)
unfolding place
place_late n j t late = omega arith

pub place_last : (n j : ℕ) → j < n → place n j n ≡ j
place_last n j below = omega (arith, place_late n j n (omega arith), mod_self (n - j))

pub place_below : (n j t : ℕ) → j < n → place n j t < n
unfolding place
place_below n j t below = let small : (t - j) % (n - j) < n - j = mod-lt (t - j) (omega arith) in omega arith

-- the place of the next tick depends on the place alone
pub place_next : (n j t : ℕ) → j < n → place n j (suc (place n j t)) ≡ place n j (suc t)
place_next n j t below = go (dec_lt t n)
  where
    r : ℕ
    r = (t - j) % (n - j)

    go : Dec (t < n) → place n j (suc (place n j t)) ≡ place n j (suc t)
    go (yes early) = rw (place_early n j t)
    go (no late) =
        let e : suc (j + r) - j ≡ suc r = omega arith in
        let f : suc t - j ≡ suc (t - j) = omega arith in
        rw (place_late n j t (omega arith), place_late n j (suc t) (omega arith), place_late n j (suc (j + r)) (omega arith), e, f, suc-mod (t - j))

-- ---- the cube that comes after

pub onward_inner : (n j k : ℕ) → suc k < n → onward n j k ≡ suc k
unfolding onward
onward_inner n j k h = rw (lt-ltb (suc k) n h)

pub onward_last : (n j k : ℕ) → n ≤ suc k → onward n j k ≡ j
unfolding onward
onward_last n j k h = rw (le-ltb (suc k) n h)

pub onward_within : (n j k : ℕ) → j ≤ n → onward n j k ≤ n
onward_within n j k within = go (dec_lt (suc k) n)
  where
    go : Dec (suc k < n) → onward n j k ≤ n
    go (yes h) = rw (onward_inner n j k h) (omega arith)
    go (no h) = rw (onward_last n j k (omega arith)) within

-- in a closed chain it is the cube for the next tick
pub onward_place : (n j k : ℕ) → j < n → k < n → onward n j k ≡ place n j (suc k)
onward_place n j k below h = go (dec_lt (suc k) n)
  where
    go : Dec (suc k < n) → onward n j k ≡ place n j (suc k)
    go (yes inner) = rw (onward_inner n j k inner, place_early n j (suc k) below inner)
    go (no edge) = let last : suc k ≡ n = omega arith in rw (onward_last n j k (omega arith), last, place_last n j below)

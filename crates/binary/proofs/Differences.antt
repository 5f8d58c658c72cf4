-- Laws of differences: what is written is read back, and what is read was so written. Assumes nothing.
use mathlib.Core.Path.{◌≡◌, refl, sym}
use mathlib.Core.Bool.{true, false}
use mathlib.Core.List.{List, [], ◌∷◌, ◌++◌}
use Prim.Native.Nat.{ℕ, zero, suc, ◌+◌, ◌*◌, ◌-◌, ◌/◌, ◌%◌, ◌≤◌, ◌<◌}
use native.Mathlib.Omega.{arith}
use borrow.Author.Tests.{ltb-true, ltb-false, lt-ltb, le-ltb}
use lib.Dec.{ltb}
use lib.ListN.{length}
use Rattle.three.proofs.Lists.{and_parts, by_test}
use Rattle.text.specs.Part.{got, ill}
use Rattle.text.proofs.Parts.{Holds, held}
use Rattle.binary.specs.Difference.{groups_of, groups, last_group, read_second, read_difference}

-- ---- one group, or two

groups_of_one : (fuel n : ℕ) → n < 128 → groups_of fuel n ≡ n ∷ []
unfolding groups_of
groups_of_one zero n h = refl
groups_of_one (suc fuel) n h = rw (lt-ltb n 128 h, groups_of)

pub groups_one : (n : ℕ) → n < 128 → groups n ≡ n ∷ []
unfolding groups
groups_one n h = groups_of_one n n h

groups_of_two : (fuel n : ℕ) → 128 ≤ n → n < 16384 → 0 < fuel → groups_of fuel n ≡ (128 + n % 128) ∷ (n / 128) ∷ []
unfolding groups_of
groups_of_two zero n p q f = absurd (omega arith)
groups_of_two (suc fuel) n p q f = rw (le-ltb n 128 p, groups_of, groups_of_one fuel (n / 128) (omega arith))

pub groups_two : (n : ℕ) → 128 ≤ n → n < 16384 → groups n ≡ (128 + n % 128) ∷ (n / 128) ∷ []
unfolding groups
groups_two n p q = groups_of_two n n p q (omega arith)

-- at most two bytes, and at least one
pub length_groups : (n : ℕ) → n < 16384 → (1 ≤ length (groups n)) × (length (groups n) ≤ 2)
length_groups n h = by_test (ltb n 128)
    (λ e. rw (groups_one n (ltb-true n 128 e)) (omega arith))
    (λ e. rw (groups_two n (ltb-false n 128 e) h) (omega arith))

-- ---- reading, byte by byte

pub last_bounds : (b : ℕ) → last_group b ≡ true → (0 < b) × (b < 128)
unfolding last_group
last_bounds b e = let p = and_parts (ltb 0 b) (ltb b 128) e in (ltb-true 0 b p.0, ltb-true b 128 p.1)

pub bounds_last : (b : ℕ) → 0 < b → b < 128 → last_group b ≡ true
unfolding last_group
bounds_last b p q = rw (lt-ltb 0 b p, lt-ltb b 128 q)

pub difference_none : read_difference [] ≡ ill
unfolding read_difference
difference_none = refl

pub difference_one : (b : ℕ) (t : List ℕ) → b < 128 → read_difference (b ∷ t) ≡ got b t
unfolding read_difference
difference_one b t h = rw (read_difference, lt-ltb b 128 h)

pub difference_more : (b : ℕ) (t : List ℕ) → 128 ≤ b → read_difference (b ∷ t) ≡ read_second (b - 128) t
unfolding read_difference
difference_more b t h = rw (read_difference, le-ltb b 128 h)

pub second_none : (low : ℕ) → read_second low [] ≡ ill
unfolding read_second
second_none low = refl

pub second_last : (low b : ℕ) (t : List ℕ) → last_group b ≡ true → read_second low (b ∷ t) ≡ got (low + b * 128) t
unfolding read_second
second_last low b t e = rw (read_second, e)

pub second_other : (low b : ℕ) (t : List ℕ) → last_group b ≡ false → read_second low (b ∷ t) ≡ ill
unfolding read_second
second_other low b t e = rw (read_second, e)

-- ---- what is written is read back

pub groups_read : (n : ℕ) (t : List ℕ) → n < 16384 → read_difference (groups n ++ t) ≡ got n t
groups_read n t h = by_test (ltb n 128)
    (λ e. rw (groups_one n (ltb-true n 128 e)) (difference_one n t (ltb-true n 128 e)))
    (λ e. let p : 128 ≤ n = ltb-false n 128 e in
    let q : 128 + n % 128 - 128 + n / 128 * 128 ≡ n = omega arith in
    rw (groups_two n p h, difference_more (128 + n % 128) (n / 128 ∷ t) (omega arith), second_last (128 + n % 128 - 128) (n / 128) t (bounds_last _ (omega arith) (omega arith)), q))

-- ---- what is read was so written

-- each is below 256
abbrev pub Bytes : List ℕ → Type 0
Bytes [] = Unit {0}
Bytes (b ∷ t) = (b < 256) × Bytes t

-- t opens with n in groups, and goes on with r
pub record Grouped (t : List ℕ) (n : ℕ) (r : List ℕ) : Type 0 where
  pub text : t ≡ groups n ++ r
  pub small : n < 16384
  pub rest : Bytes r

second_grouped : (b : ℕ) (t : List ℕ) → 128 ≤ b → b < 256 → Bytes t → Holds (Grouped (b ∷ t)) (read_second (b - 128) t)
unfolding read_second
second_grouped b [] p q s = tt
second_grouped b (d ∷ t) p q s = by_test (last_group d)
    (λ e. let l = last_bounds d e in
    let n : ℕ = b - 128 + d * 128 in
    let f : 128 + (b - 128 + d * 128) % 128 ≡ b = omega arith in
    let g : (b - 128 + d * 128) / 128 ≡ d = omega arith in
    rw (second_last (b - 128) d t e) (record { text = sym (rw (groups_two (b - 128 + d * 128) (omega arith) (omega arith), f, g)); small = omega arith; rest = s.1 }))
    (λ e. rw (second_other (b - 128) d t e) tt)

difference_grouped : (t : List ℕ) → Bytes t → Holds (Grouped t) (read_difference t)
unfolding read_difference
difference_grouped [] s = tt
difference_grouped (b ∷ t) s = by_test (ltb b 128)
    (λ e. let h : b < 128 = ltb-true b 128 e in rw (difference_one b t h) (record { text = sym (rw (groups_one b h)); small = omega arith; rest = s.1 }))
    (λ e. let h : 128 ≤ b = ltb-false b 128 e in rw (difference_more b t h) (second_grouped b t h s.0 s.1))

pub read_groups : {t : List ℕ} {n : ℕ} {r : List ℕ} → Bytes t → read_difference t ≡ got n r → Grouped t n r
read_groups s e = held _ (difference_grouped _ s) e

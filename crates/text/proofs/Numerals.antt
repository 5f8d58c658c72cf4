-- Laws of numbers read from a text: what is written is read back, and what is read was so written. Assumes nothing.
use mathlib.Core.Path.{◌≡◌, refl, ◌∙◌, ap}
use mathlib.Core.Bool.{Bool, true, false, not}
use mathlib.Core.List.{List, [], ◌∷◌, ◌++◌, append_assoc}
use Prim.Native.Nat.{ℕ, ◌+◌, ◌*◌, ◌-◌, ◌/◌, ◌%◌, ◌≤◌, ◌<◌}
use native.Mathlib.Omega.{arith}
use borrow.Author.Tests.{ltb-true, leb-true, lt-ltb, le-leb, not-true}
use lib.Dec.{leb, ltb}
use Rattle.three.proofs.Lists.{and_parts, by_test}
use Rattle.text.specs.Part.{got, ill}
use Rattle.text.specs.Decimal.{decimal, is_digit, may_grow, read_on, read_number}
use Rattle.text.proofs.Parts.{Holds, held}
use Rattle.text.proofs.Decimals.{by_digits, decimal_more, decimal_small}

-- ---- reading, byte by byte

pub digit_bounds : (b : ℕ) → is_digit b ≡ true → (48 ≤ b) × (b ≤ 57)
unfolding is_digit
digit_bounds b e = let p = and_parts (leb 48 b) (leb b 57) e in (leb-true 48 b p.0, leb-true b 57 p.1)

pub bounds_digit : (b : ℕ) → 48 ≤ b → b ≤ 57 → is_digit b ≡ true
unfolding is_digit
bounds_digit b p q = rw (le-leb 48 b p, le-leb b 57 q)

pub grow_bounds : (n : ℕ) → may_grow n ≡ true → (0 < n) × (n < 10000)
unfolding may_grow
grow_bounds n e = let p = and_parts (ltb 0 n) (ltb n 10000) e in (ltb-true 0 n p.0, ltb-true n 10000 p.1)

pub bounds_grow : (n : ℕ) → 0 < n → n < 10000 → may_grow n ≡ true
unfolding may_grow
bounds_grow n p q = rw (lt-ltb 0 n p, lt-ltb n 10000 q)

pub first_none : read_number [] ≡ ill
unfolding read_number
first_none = refl

pub first_digit : (b : ℕ) (t : List ℕ) → is_digit b ≡ true → read_number (b ∷ t) ≡ read_on (b - 48) t
unfolding read_number
first_digit b t e = rw (read_number, e)

pub first_other : (b : ℕ) (t : List ℕ) → is_digit b ≡ false → read_number (b ∷ t) ≡ ill
unfolding read_number
first_other b t e = rw (read_number, e)

pub next_none : (n : ℕ) → read_on n [] ≡ got n []
unfolding read_on
next_none n = refl

pub next_digit : (n b : ℕ) (t : List ℕ) → is_digit b ≡ true → may_grow n ≡ true → read_on n (b ∷ t) ≡ read_on (n * 10 + (b - 48)) t
unfolding read_on
next_digit n b t e g = rw (read_on, e, g)

pub next_over : (n b : ℕ) (t : List ℕ) → is_digit b ≡ true → may_grow n ≡ false → read_on n (b ∷ t) ≡ ill
unfolding read_on
next_over n b t e g = rw (read_on, e, g)

pub next_other : (n b : ℕ) (t : List ℕ) → is_digit b ≡ false → read_on n (b ∷ t) ≡ got n (b ∷ t)
unfolding read_on
next_other n b t e = rw (read_on, e)

-- ---- what is written is read back

-- the text does not open with a digit
unfoldable pub no_digit : List ℕ → Bool
no_digit [] = true
no_digit (b ∷ t) = not (is_digit b)

read_on_stops : (n : ℕ) (t : List ℕ) → no_digit t ≡ true → read_on n t ≡ got n t
unfolding no_digit
read_on_stops n [] e = next_none n
read_on_stops n (b ∷ t) e = next_other n b t (not-true (is_digit b) e)

decimal_read_on : (n : ℕ) (t : List ℕ) → n < 100000 → read_number (decimal n ++ t) ≡ read_on n t
decimal_read_on = by_digits (λ n. (t : List ℕ) → n < 100000 → read_number (decimal n ++ t) ≡ read_on n t)
    (λ n h t p. rw (decimal_small n h, first_digit (48 + n) t (bounds_digit _ (omega arith) (omega arith))) (ap (λ (k : ℕ). read_on k t) (omega arith)))
    (λ n h on t p. let q : n / 10 * 10 + (48 + n % 10 - 48) ≡ n = omega arith in
    let d = next_digit (n / 10) (48 + n % 10) t (bounds_digit _ (omega arith) (omega arith)) (bounds_grow _ (omega arith) (omega arith)) in
    rw (decimal_more n h, append_assoc, on ((48 + n % 10) ∷ t) (omega arith), d, q))

pub decimal_read : (n : ℕ) (t : List ℕ) → n < 100000 → no_digit t ≡ true → read_number (decimal n ++ t) ≡ got n t
decimal_read n t h e = decimal_read_on n t h ∙ read_on_stops n t e

-- ---- what is read was so written

-- t opens with n as it is written, and goes on with r
pub record Numeral (t : List ℕ) (n : ℕ) (r : List ℕ) : Type 0 where
  pub text : t ≡ decimal n ++ r
  pub short : n < 100000
  pub ended : no_digit r ≡ true

-- n and a digit more
decimal_grow : (n b : ℕ) (t : List ℕ) → is_digit b ≡ true → may_grow n ≡ true → decimal n ++ (b ∷ t) ≡ decimal (n * 10 + (b - 48)) ++ t
decimal_grow n b t e g =
    let d = digit_bounds b e in
    let s = grow_bounds n g in
    let q : (n * 10 + (b - 48)) / 10 ≡ n = omega arith in
    let r : 48 + (n * 10 + (b - 48)) % 10 ≡ b = omega arith in
    rw (decimal_more (n * 10 + (b - 48)) (omega arith), q, r, append_assoc)

read_on_decimal : (n : ℕ) (t : List ℕ) → n < 100000 → Holds (Numeral (decimal n ++ t)) (read_on n t)
unfolding read_on no_digit
read_on_decimal n [] h = record { text = refl; short = h; ended = refl }
read_on_decimal n (b ∷ t) h = by_test (is_digit b)
    (λ e. by_test (may_grow n)
    (λ g. rw (next_digit n b t e g, decimal_grow n b t e g) (read_on_decimal (n * 10 + (b - 48)) t (omega (arith, digit_bounds b e, grow_bounds n g))))
    (λ g. rw (next_over n b t e g) tt))
    (λ e. rw (next_other n b t e) (record { text = refl; short = h; ended = rw e }))

read_number_decimal : (t : List ℕ) → Holds (Numeral t) (read_number t)
unfolding read_number
read_number_decimal [] = tt
read_number_decimal (b ∷ t) = by_test (is_digit b)
    (λ e. let d = digit_bounds b e in
    let q : 48 + (b - 48) ≡ b = omega arith in
    let p : decimal (b - 48) ++ t ≡ b ∷ t = rw (decimal_small (b - 48) (omega arith), q) in
    rw (first_digit b t e) (rw p at (read_on_decimal (b - 48) t (omega arith))))
    (λ e. rw (first_other b t e) tt)

pub read_decimal : {t : List ℕ} {n : ℕ} {r : List ℕ} → read_number t ≡ got n r → Numeral t n r
read_decimal e = held _ (read_number_decimal _) e

-- Laws of digits and numbers found at a position of a text. Assumes nothing.
use mathlib.Core.Path.{◌≡◌, refl, sym, ◌∙◌, ap}
use mathlib.Core.Bool.{Bool, true, false}
use mathlib.Core.List.{List, [], ◌∷◌}
use Prim.Native.Nat.{ℕ, ◌+◌, ◌*◌, ◌-◌, ◌≤◌, ◌<◌}
use native.Mathlib.Numerals.{add-one}
use native.Mathlib.Omega.{arith}
use borrow.Author.Tests.{ltb-true, ltb-false, lt-ltb}
use lib.Dec.{ltb}
use lib.ListN.{length, get_or, drop_of_length-le}
use lib.Seq.{drop-cons}
use Rattle.three.proofs.Lists.{by_test}
use Rattle.text.specs.Part.{got, ill}
use Rattle.text.specs.Decimal.{is_digit, may_grow, read_on, read_number}
use Rattle.std.specs.Char.{is_ascii_digit}
use Rattle.std.specs.Prelude.{Some, None}
use Rattle.std.proofs.lemmas.Option.{none-some}
use Rattle.lines.specs.LinesInCode.{from, leading, number_part, number_end, NumberFound}
use Rattle.text.proofs.Numerals.{digit_bounds, grow_bounds, first_none, first_digit, first_other, next_none, next_digit, next_over, next_other}

-- ---- a text from a position on

pub from_end : (text : List ℕ) (at : ℕ) → length text ≤ at → from text at ≡ []
unfolding from
from_end text at h = drop_of_length-le text h

pub from_byte : (text : List ℕ) (at : ℕ) → at < length text → from text at ≡ get_or text at 0 ∷ from text (at + 1)
unfolding from
from_byte text at h = drop-cons text at 0 h ∙ rw add-one

by_rest {ℓ} : {P : Type ℓ} (text : List ℕ) (at : ℕ) → (length text ≤ at → from text at ≡ [] → P)
    → (at < length text → from text at ≡ get_or text at 0 ∷ from text (at + 1) → P) → P
by_rest text at f g = by_test (ltb at (length text))
    (λ e. let h = ltb-true at (length text) e in g h (from_byte text at h))
    (λ e. let h = ltb-false at (length text) e in f h (from_end text at h))

-- ---- a digit

leading_none : leading [] ≡ None
unfolding leading
leading_none = refl

leading_digit : (b : ℕ) (t : List ℕ) → is_digit b ≡ true → leading (b ∷ t) ≡ Some (b - 48)
unfolding leading
leading_digit b t e = rw (leading, e)

leading_other : (b : ℕ) (t : List ℕ) → is_digit b ≡ false → leading (b ∷ t) ≡ None
unfolding leading
leading_other b t e = rw (leading, e)

-- the tests for it, in order
module _ (text : List ℕ) (at : ℕ) where
  pub digit_beyond : length text ≤ at → None ≡ leading (from text at)
  digit_beyond h = rw (from_end text at h, leading_none)

  module _ (h : at < length text) where
    module _ {b : ℕ} (byte : b ≡ get_or text at 0) {r : Bool} (test : r ≡ is_ascii_digit b) where
      pub digit_not : r ≡ false → None ≡ leading (from text at)
      unfolding is_digit
      digit_not e = rw (from_byte text at h, ← byte) (sym (leading_other _ _ (sym test ∙ e)))

      pub digit_given : r ≡ true → Some (b - 48) ≡ leading (from text at)
      unfolding is_digit
      digit_given e = rw (from_byte text at h, ← byte) (sym (leading_digit _ _ (sym test ∙ e)))

-- a digit at a position
record Digit (text : List ℕ) (at d : ℕ) : Type 0 where
  byte : ℕ
  within : at < length text
  is : is_digit byte ≡ true
  rest : from text at ≡ byte ∷ from text (at + 1)
  same : d ≡ byte - 48

digit_at : (text : List ℕ) (at : ℕ) {d : ℕ} → Some d ≡ leading (from text at) → Digit text at d
digit_at text at h = by_rest text at
    (λ p e. let g = rw (e, leading_none) at h in cc)
    (λ p e. by_test (is_digit (get_or text at 0))
    (λ d. record { byte = get_or text at 0; within = p; is = d; rest = e; same = let g = rw (e, leading_digit _ _ d) at h in cc })
    (λ d. let g = rw (e, leading_other _ _ d) at h in cc))

pub digit_within : (text : List ℕ) (at : ℕ) {d : ℕ} → Some d ≡ leading (from text at) → at < length text
digit_within text at e = (digit_at text at e).within

pub digit_small : (text : List ℕ) (at : ℕ) {d : ℕ} → Some d ≡ leading (from text at) → d ≤ 9
digit_small text at {d} e = let g : Digit text at d = digit_at text at e in omega (arith, digit_bounds g.byte g.is)

-- what holds of the end of a text and in front of another byte
no_digit {ℓ} : (P : List ℕ → Type ℓ) (text : List ℕ) (at : ℕ) → P [] → ((b : ℕ) (t : List ℕ) → is_digit b ≡ false → P (b ∷ t)) → None ≡ leading (from text at) → P (from text at)
no_digit P text at f g h = by_rest text at
    (λ p e. rw e f)
    (λ p e. by_test (is_digit (get_or text at 0))
    (λ d. let k = rw (e, leading_digit _ _ d) at h in absurd (none-some _ k))
    (λ d. rw e (g _ _ d)))

-- another digit may follow
pub grow_zero : (n : ℕ) → n ≡ 0 → false ≡ may_grow n
unfolding may_grow
grow_zero n e = rw e

pub grow_other : (n : ℕ) → (n ≡ 0 → ⊥) → ltb n 10000 ≡ may_grow n
unfolding may_grow
grow_other n h = rw (lt-ltb 0 n (omega arith))

-- ---- a number: its digits so far make `value`, and the next stands at `next`

module _ (text : List ℕ) (at : ℕ) where
  pub record Digits (value next : ℕ) : Type 0 where
    pub within : next ≤ length text
    pub short : value < 100000
    pub same : read_number (from text at) ≡ read_on value (from text next)

  pub digits_none : None ≡ leading (from text at) → NumberFound text (read_number (from text at)) None
  unfolding number_part number_end
  digits_none e = record { reads = no_digit (λ t. read_number t ≡ ill) text at first_none first_other e; within = omega arith }

  pub digits_first : {d : ℕ} → Some d ≡ leading (from text at) → Digits d (at + 1)
  digits_first {d} e =
      let g : Digit text at d = digit_at text at e in
      record {
        within = omega arith;
        short = omega (arith, digit_bounds g.byte g.is);
        same = rw (g.rest, first_digit g.byte (from text (at + 1)) g.is) (ap (λ v. read_on v (from text (at + 1))) (sym g.same));
      }

  module _ {value next : ℕ} (s : Digits value next) where
    pub digits_stop : None ≡ leading (from text next) → NumberFound text (read_number (from text at)) (Some (record { value = value; next = next }))
    unfolding number_part number_end
    digits_stop e = record { reads = s.same ∙ no_digit (λ t. read_on value t ≡ got value t) text next (next_none value) (next_other value) e; within = s.within }

    module _ {d : ℕ} (e : Some d ≡ leading (from text next)) where
      pub digits_over : may_grow value ≡ false → NumberFound text (read_number (from text at)) None
      unfolding number_part number_end
      digits_over g = let k : Digit text next d = digit_at text next e in record { reads = s.same ∙ rw k.rest (next_over value k.byte _ k.is g); within = omega arith }

      pub digits_next : may_grow value ≡ true → Digits (value * 10 + d) (next + 1)
      digits_next m =
          let g : Digit text next d = digit_at text next e in
          record {
            within = omega arith;
            short = omega (arith, grow_bounds value m, digit_bounds g.byte g.is);
            same = s.same ∙ rw (g.rest, next_digit value g.byte (from text (next + 1)) g.is m) (ap (λ v. read_on (value * 10 + v) (from text (next + 1))) (sym g.same));
          }

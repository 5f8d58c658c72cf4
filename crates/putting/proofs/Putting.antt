-- Laws of bytes put into a buffer: one byte, one list behind another, and a whole text from the front. Assumes nothing.
use mathlib.Core.Path.{◌≡◌, refl, sym, ◌∙◌}
use mathlib.Core.List.{List, [], ◌∷◌, ◌++◌}
use Prim.Native.Nat.{ℕ, ◌+◌, ◌/◌, ◌%◌, ◌≤◌, ◌<◌}
use native.Mathlib.Omega.{arith}
use lib.ListN.{length, set, length-set, length-append}
use Rattle.three.specs.Lists.{over}
use Rattle.text.specs.Decimal.{decimal}
use Rattle.putting.specs.PutInCode.{Put}
use Rattle.text.proofs.Stores.{sets_append, sets_front}
use Rattle.text.proofs.Decimals.{decimal_small, decimal_more}

pub put_one : (d : List ℕ) (at b : ℕ) → Put d at (b ∷ []) (set d at b) (at + 1)
put_one d at b = record { same = refl; after = refl; long = length-set d at b }

-- one list, and behind it another
pub put_then : {d e f : List ℕ} {p q r : ℕ} {s t : List ℕ} → Put d p s e q → Put e q t f r → Put d p (s ++ t) f r
put_then {d} {e} {f} {p} {q} {r} {s} {t} a b = record {
  same = b.same ∙ rw (a.same, a.after) (sym (sets_append d p s t));
  after = rw length-append (omega (arith, a.after, b.after));
  long = b.long ∙ a.long;
}

-- a list that is put from the front
pub put_over : {d s e : List ℕ} {q : ℕ} → Put d 0 s e q → length s ≤ length d → e ≡ over s d
put_over {d} {s} p h = p.same ∙ sets_front d s h

-- ---- a number, from its last digit

pub put_small : {d e : List ℕ} {p q : ℕ} (n : ℕ) → n < 10 → Put d p ((48 + n) ∷ []) e q → Put d p (decimal n) e q
put_small n h a = rw (decimal_small n h) a

pub put_more : {d e f : List ℕ} {p q r : ℕ} (n : ℕ) → 10 ≤ n → Put d p (decimal (n / 10)) e q → Put e q ((48 + n % 10) ∷ []) f r → Put d p (decimal n) f r
put_more n h a z = rw (decimal_more n h) (put_then a z)

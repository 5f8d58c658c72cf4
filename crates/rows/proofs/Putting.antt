-- Laws of the report's lines in a buffer: a text that is copied, a number of at most 20 digits. Assumes nothing.
use mathlib.Core.Path.{◌≡◌, refl, sym, ap, ◌∙◌}
use mathlib.Core.List.{List}
use Prim.Native.Nat.{ℕ, zero, suc, ◌+◌, ◌-◌, ◌≤◌, ◌<◌, ◌^◌}
use native.Mathlib.Omega.{arith}
use lib.ListN.{length}
use lib.Seq.{sets, sets-eq, take-length, length-sets}
use borrow.Rule.Slice.PartMut.{put_mid}
use Rattle.std.proofs.lemmas.Slice.{put_mid-paste}
use Rattle.three.proofs.Loops.{Stored, stored_last}
use Rattle.three.specs.Value.{decode}
use Rattle.text.specs.Decimal.{decimal}
use Rattle.putting.specs.PutInCode.{Put}
use Rattle.text.proofs.Decimals.{length_below}
use Rattle.putting.proofs.Putting.{put_then}
use Rattle.rows.specs.Rows.{item, said}

-- a text that is stored whole is put
pub stored_put : (out : List ℕ) (at : ℕ) (text : List ℕ) (e : List ℕ) (i : ℕ) → at + length text ≤ length out
    → Stored out at text (length text) e i → length text ≤ i → Put out at text e (at + length text)
stored_put out at text e i room s h = record { same = stored_last out at text (length text) e i s h ∙ rw take-length (sym (sets-eq text out at room)); after = refl; long = s.long }

-- a text that is copied over a part is put
pub copied_put : (out : List ℕ) (at : ℕ) (text copy : List ℕ) → at + length text ≤ length out → copy ≡ text → Put out at text (put_mid at (at + length text - at) out copy) (at + length text)
copied_put out at text copy room e =
    let same : put_mid at (at + length text - at) out copy ≡ sets out at text = put_mid-paste at _ out copy text (length text) e (omega arith) refl ∙ rw take-length (sym (sets-eq text out at room)) in
    record { same = same; after = refl; long = ap length same ∙ length-sets out at text }

pub twenty_digits : (n : ℕ) → n < 2 ^ 64 → length (decimal n) ≤ 20
twenty_digits n h = length_below 19 n (omega arith)

-- a name, and behind it a number
pub item_put : {d e f name : List ℕ} {p q r : ℕ} (n : ℕ) → Put d p name e q → Put e q (decimal n) f r → n < 2 ^ 64
    → Put d p (item name n) f r × (r ≤ p + length name + 20)
unfolding item
item_put n a b h = (put_then a b, omega (arith, a.after, b.after, twenty_digits n h))

-- what is said of X, of 0 and of 1
pub said_either : {d e : List ℕ} {p q : ℕ} (off on either : List ℕ) (field : ℕ) → field ≡ 0 → Put d p either e q → Put d p (said off on either (decode field)) e q
unfolding said decode
said_either off on either zero h a = a
said_either off on either (suc n) h a = absurd (omega arith)

pub said_off : {d e : List ℕ} {p q : ℕ} (off on either : List ℕ) (field : ℕ) → field ≡ 1 → Put d p off e q → Put d p (said off on either (decode field)) e q
unfolding said decode
said_off off on either zero h a = absurd (omega arith)
said_off off on either (suc zero) h a = a
said_off off on either (suc (suc n)) h a = absurd (omega arith)

pub said_on : {d e : List ℕ} {p q : ℕ} (off on either : List ℕ) (field : ℕ) → (field ≡ 0 → ⊥) → (field ≡ 1 → ⊥) → Put d p on e q → Put d p (said off on either (decode field)) e q
unfolding said decode
said_on off on either zero h k a = absurd (h refl)
said_on off on either (suc zero) h k a = absurd (k refl)
said_on off on either (suc (suc n)) h k a = a

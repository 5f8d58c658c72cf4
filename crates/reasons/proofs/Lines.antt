-- Laws of an explanation's words in a buffer: a latch, and the cubes of a line. Assumes nothing.
use mathlib.Core.Path.{◌≡◌, refl, sym}
use mathlib.Core.Bool.{Bool, true, false, not, ◌||◌}
use mathlib.Core.List.{List, []}
use Prim.Native.Nat.{ℕ, zero, suc, ◌+◌, ◌≤◌}
use native.Mathlib.Omega.{arith}
use native.Mathlib.Nat.{add-zero}
use borrow.Author.Tests.{eq-eqb, ne_eqb}
use lib.Dec.{eqb}
use lib.ListN.{length}
use Rattle.three.specs.Value.{Three, unknown, low, high, code, decode}
use Rattle.three.specs.Cube.{alike}
use Rattle.text.specs.Bench.{bytes}
use Rattle.putting.specs.PutInCode.{Put}
use Rattle.putting.proofs.Putting.{put_then}
use Rattle.rows.specs.Rows.{item, said}
use Rattle.reasons.specs.Reasons.{is_known, link, forced, named}

pub put_nothing : {d : List ℕ} {p : ℕ} → Put d p [] d p
put_nothing {p = p} = record { same = refl; after = sym (add-zero p); long = refl }

module _ {d e : List ℕ} {p q : ℕ} (begun : Bool) where
  pub link_next : begun ≡ true → Put d p (bytes ", ") e q → Put d p (link begun) e q × (q ≤ p + 2)
  unfolding link bytes
  link_next h a = (rw h a, omega (arith, a.after))

  pub link_first : begun ≡ false → Put d p (bytes ": ") e q → Put d p (link begun) e q × (q ≤ p + 2)
  unfolding link bytes
  link_first h a = (rw h a, omega (arith, a.after))

-- a latch that is not needed, and one that is
pub forced_none : {d : List ℕ} {p : ℕ} (begun : Bool) (i field : ℕ) → field ≡ 0 → Put d p (forced begun i (decode field)) d p × (p ≤ p + 32)
unfolding forced is_known alike code decode
forced_none begun i zero h = (put_nothing, omega arith)
forced_none begun i (suc n) h = absurd (omega arith)

said_short : (v : Three) → length (said (bytes " = 0") (bytes " = 1") [] v) ≤ 4
unfolding said bytes
said_short low = omega arith
said_short high = omega arith
said_short unknown = omega arith

module _ {d e f g : List ℕ} {p q r s : ℕ} (begun : Bool) (i : ℕ) where
  pub forced_some : (field : ℕ) → (field ≡ 0 → ⊥) → Put d p (link begun) e q × (q ≤ p + 2) → Put e q (item (bytes "latch ") i) f r × (r ≤ q + length (bytes "latch ") + 20)
      → Put f r (said (bytes " = 0") (bytes " = 1") [] (decode field)) g s → Put d p (forced begun i (decode field)) g s × (s ≤ p + 32)
  unfolding forced is_known alike code decode bytes
  forced_some zero h a b z = absurd (h refl)
  forced_some (suc zero) h a b z = (put_then a.0 (put_then b.0 z), omega (arith, a.1, b.1, z.after, said_short low))
  forced_some (suc (suc n)) h a b z = (put_then a.0 (put_then b.0 z), omega (arith, a.1, b.1, z.after, said_short high))

pub begun_by : (begun : Bool) → begun ≡ false → (field : ℕ) → not (eqb field 0) ≡ (begun || is_known (decode field))
unfolding is_known alike code decode
begun_by begun h zero = rw h refl
begun_by begun h (suc zero) = rw h refl
begun_by begun h (suc (suc n)) = rw (h, ne_eqb (suc (suc n)) 0 (λ e. omega (arith, e))) refl

-- ---- the cubes of a line

module _ {d e : List ℕ} {q : ℕ} (from last : ℕ) where
  pub named_one : from ≡ last → Put d 0 (item (bytes "cube ") from) e q × (q ≤ 0 + length (bytes "cube ") + 20) → Put d 0 (named from last) e q × (q ≤ 60)
  unfolding named bytes
  named_one h a = (rw (eq-eqb from last h) a.0, omega (arith, a.1))

  pub named_several : {f : List ℕ} {r : ℕ} → (from ≡ last → ⊥) → Put d 0 (item (bytes "cubes ") from) e q × (q ≤ 0 + length (bytes "cubes ") + 20)
      → Put e q (item (bytes " to ") last) f r × (r ≤ q + length (bytes " to ") + 20) → Put d 0 (named from last) f r × (r ≤ 60)
  unfolding named bytes
  named_several h a b = (rw (ne_eqb from last h) (put_then a.0 b.0), omega (arith, a.1, b.1))

-- Covering, byte by byte: it never depends on the marks of the cubes. Assumes nothing.
use mathlib.Core.Path.{◌≡◌, refl, sym, ap, ap₂, ◌∙◌}
use mathlib.Core.Bool.{Bool}
use mathlib.Core.List.{◌∷◌}
use Prim.Native.Nat.{ℕ, zero, suc, ◌+◌, ◌*◌, ◌/◌, ◌%◌, ◌<◌}
use native.Mathlib.Omega.{arith}
use borrow.Author.Tests.{eqb-true, eq-eqb}
use lib.Bits.{bit_and, and_block}
use lib.Dec.{eqb}
use lib.ListN.{length}
use Rattle.three.specs.Lists.{every}
use Rattle.three.specs.Value.{Three, unknown, low, high, code}
use Rattle.three.specs.Cube.{Cube, alike, allows, subsumes}
use Rattle.three.specs.Record.{bytes_for, byte_at, pack}
use Rattle.three.proofs.Lists.{iff, every_ext}
use Rattle.three.proofs.Pack.{get_or_pack}
use Rattle.three.proofs.Bytewise.{covers, covers_subsumes}
use Rattle.cubes.specs.Buffer.{cube_bytes}
use Rattle.cubes.specs.BufferInCode.{raised_byte, marked_byte}
use Rattle.cubes.proofs.Raised.{record_byte, byte_marked, Marked}

-- no bit of the one is missing in the other; so a mark whose bits are all in the other's is never missed: every bit of the one pair is in the other
abbrev pub Within : ℕ → ℕ → Type 0
Within p q = bit_and (p % 4) (q % 4) ≡ p % 4

pub sought_mark : (x : Three) → Within (code x) 3
unfolding code
sought_mark unknown = refl
sought_mark low = refl
sought_mark high = refl

pub no_mark : (x : Three) → Within 0 (code x)
unfolding code
no_mark unknown = refl
no_mark low = refl
no_mark high = refl

-- then what is behind it decides
front_aside : (p q r s : ℕ) → r < 64 → s < 64 → Within p q → eqb (bit_and (p % 4 * 64 + r) (q % 4 * 64 + s)) (p % 4 * 64 + r) ≡ eqb (bit_and r s) r
front_aside p q r s hr hs e =
    let whole : bit_and (p % 4 * 64 + r) (q % 4 * 64 + s) ≡ p % 4 * 64 + bit_and r s = and_block 6 (p % 4) (q % 4) r s hr hs ∙ ap (λ (n : ℕ). n * 64 + bit_and r s) e in
    ap (λ (n : ℕ). eqb n (p % 4 * 64 + r)) whole
    ∙ iff _ _ (λ t. eq-eqb (bit_and r s) r (omega (arith, eqb-true (p % 4 * 64 + bit_and r s) (p % 4 * 64 + r) t))) (λ t. eq-eqb _ _ (ap (λ (n : ℕ). p % 4 * 64 + n) (eqb-true (bit_and r s) r t)))

-- byte k of the one keeps all its bits
abbrev keeps : ℕ → Cube → ℕ → Cube → ℕ → Bool
keeps p v q b k = eqb (bit_and (marked_byte p v k) (marked_byte q b k)) (marked_byte p v k)

marks_aside : (p q : ℕ) (v b : Cube) → Within p q → (k : ℕ) → keeps p v q b k ≡ keeps 0 v 0 b k
unfolding marked_byte raised_byte
marks_aside p q v b e zero =
    let hv : byte_at v 0 / 4 < 64 = omega (arith, record_byte v 0) in
    let hb : byte_at b 0 / 4 < 64 = omega (arith, record_byte b 0) in
    front_aside p q (byte_at v 0 / 4) (byte_at b 0 / 4) hv hb e ∙ sym (front_aside 0 0 (byte_at v 0 / 4) (byte_at b 0 / 4) hv hb refl)
marks_aside p q v b e (suc k) = refl

unmarked_covers : (v b : Cube) (k : ℕ) → k < bytes_for (suc (length v)) → length v ≡ length b → keeps 0 v 0 b k ≡ covers (pack (unknown ∷ v)) (pack (unknown ∷ b)) k
unfolding code
unmarked_covers v b k h e =
    ap₂ (λ (x y : ℕ). eqb (bit_and x y) x)
    (sym (get_or_pack (unknown ∷ v) k h ∙ byte_marked unknown v k))
    (sym (get_or_pack (unknown ∷ b) k (rw (← e) h) ∙ byte_marked unknown b k))

-- so byte by byte the one covers the other where its cube subsumes the other's, whatever the marks are
pub cube_covers : {latches : ℕ} (f g : ℕ → ℕ) (p q : ℕ) (v b : Cube) → length v ≡ latches → length b ≡ latches → Within p q → Marked latches f p v → Marked latches g q b
    → every (cube_bytes latches) (λ i. eqb (bit_and (f i) (g i)) (f i)) ≡ subsumes v b
unfolding cube_bytes subsumes allows alike code
cube_covers {latches} f g p q v b sv sb e ef eg =
    every_ext (bytes_for (suc latches)) _ (covers (pack (unknown ∷ v)) (pack (unknown ∷ b)))
    (λ i l. ap₂ (λ (x y : ℕ). eqb (bit_and x y) x) (ef i l) (eg i l) ∙ marks_aside p q v b e i ∙ unmarked_covers v b i (rw sv l) (sv ∙ sym sb))
    ∙ ap (λ (n : ℕ). every (bytes_for (suc n)) (covers (pack (unknown ∷ v)) (pack (unknown ∷ b)))) (sym sv)
    ∙ covers_subsumes (unknown ∷ v) (unknown ∷ b) (ap suc (sv ∙ sym sb))

-- Laws of a value's two bits, and of the four values in a byte. Assumes nothing.
use mathlib.Core.Path.{◌≡◌, refl, ap₂}
use mathlib.Core.List.{List, [], ◌∷◌}
use Prim.Native.Nat.{ℕ, zero, suc, ◌+◌, ◌*◌, ◌-◌, ◌/◌, ◌%◌, ◌^◌, ◌<◌, ◌≤◌}
use native.Mathlib.Omega.{arith}
use lib.ListN.{get_or, length}
use Rattle.three.specs.Lists.{tabulate, every}
use Rattle.three.specs.Value.{Three, unknown, low, high, code, decode}
use Rattle.three.specs.Record.{byte_of, pairs, pair_at, bad}
use Rattle.three.specs.RecordInCode.{known_pairs, judged}
use Rattle.three.proofs.Table.{same_answers}
use mathlib.Core.Bool.{Bool, true, false, cond}
use borrow.Author.Tests.{eqb-false, ne_eqb}
use lib.Dec.{eqb}
use Rattle.three.proofs.Lists.{or_parts}

-- ---- a value and its two bits

pub code_decode : (p : ℕ) → p < 3 → code (decode p) ≡ p
unfolding code decode
code_decode zero h = refl
code_decode (suc zero) h = refl
code_decode (suc (suc zero)) h = refl
code_decode (suc (suc (suc p))) h = absurd (omega arith)

pub decode_code : (v : Three) → decode (code v) ≡ v
unfolding code decode
decode_code unknown = refl
decode_code low = refl
decode_code high = refl

pub code_small : (v : Three) → code v < 3
unfolding code
code_small unknown = omega arith
code_small low = omega arith
code_small high = omega arith

-- ---- four values in a byte

module _ (a b c d : Three) where
  pub byte_small : byte_of a b c d < 256
  unfolding byte_of
  byte_small = omega (arith, code_small a, code_small b, code_small c, code_small d)

  pub pairs_byte : pairs (byte_of a b c d) ≡ code a ∷ code b ∷ code c ∷ code d ∷ []
  unfolding pairs byte_of
  pairs_byte =
      let small_a = code_small a in
      let small_b = code_small b in
      let small_c = code_small c in
      let small_d = code_small d in
      let byte : ℕ = 64 * code a + 16 * code b + 4 * code c + code d in
      let at_0 : byte / 64 % 4 ≡ code a = omega arith in
      let at_1 : byte / 16 % 4 ≡ code b = omega arith in
      let at_2 : byte / 4 % 4 ≡ code c = omega arith in
      let at_3 : byte % 4 ≡ code d = omega arith in
      λ i. at_0 i ∷ at_1 i ∷ at_2 i ∷ at_3 i ∷ []

pub whole_byte : (byte : ℕ) → byte < 256 → 64 * (byte / 64 % 4) + 16 * (byte / 16 % 4) + 4 * (byte / 4 % 4) + byte % 4 ≡ byte
unfolding tabulate
whole_byte byte h = same_answers 0 (λ b. 64 * (b / 64 % 4) + 16 * (b / 16 % 4) + 4 * (b / 4 % 4) + b % 4) (λ b. b) 256 byte refl h

-- pair k of a byte is a digit of it in base 4
pub pair_digit : (byte k : ℕ) → k < 4 → get_or (pairs byte) k 0 ≡ byte / 4 ^ (3 - k) % 4
unfolding pairs
pair_digit byte zero h = refl
pair_digit byte (suc zero) h = refl
pair_digit byte (suc (suc zero)) h = refl
pair_digit byte (suc (suc (suc zero))) h = omega arith
pair_digit byte (suc (suc (suc (suc k)))) h = absurd (omega arith)

pub pair_of_byte : (bytes : List ℕ) (k j : ℕ) → j < 4 → pair_at bytes (4 * k + j) ≡ get_or (pairs (get_or bytes k 0)) j 0
unfolding pair_at
pair_of_byte bytes k j h =
    let byte : (4 * k + j) / 4 ≡ k = omega arith in
    let place : (4 * k + j) % 4 ≡ j = omega arith in
    ap₂ (λ m n. get_or (pairs (get_or bytes m 0)) n 0) byte place

-- ---- a byte's judgement

known_pairs_le : (ps : List ℕ) → known_pairs ps ≤ length ps
unfolding known_pairs
known_pairs_le [] = omega arith
known_pairs_le (zero ∷ ps) = omega (arith, known_pairs_le ps)
known_pairs_le (suc p ∷ ps) = omega (arith, known_pairs_le ps)

judged_255 : (t : Bool) (n : ℕ) → n ≤ 4 → eqb (cond t 255 n) 255 ≡ t
judged_255 true n h = refl
judged_255 false n h = ne_eqb n 255 (λ e. omega arith)

pub judged_bad : (byte : ℕ) → eqb (judged byte) 255 ≡ bad (pairs byte)
unfolding judged pairs
judged_bad byte = judged_255 (bad (pairs byte)) (known_pairs (pairs byte)) (known_pairs_le (pairs byte))

pub no_11 : (ps : List ℕ) → bad ps ≡ false → (j : ℕ) → get_or ps j 0 ≡ 3 → ⊥
unfolding bad
no_11 [] e j t = omega arith
no_11 (p ∷ ps) e zero t = eqb-false p 3 (or_parts (eqb p 3) (bad ps) e).0 t
no_11 (p ∷ ps) e (suc j) t = no_11 ps (or_parts (eqb p 3) (bad ps) e).1 j t

code_good : (v : Three) (ps : List ℕ) → bad (code v ∷ ps) ≡ bad ps
unfolding bad code
code_good unknown ps = refl
code_good low ps = refl
code_good high ps = refl

pub byte_good : (a b c d : Three) → bad (pairs (byte_of a b c d)) ≡ false
unfolding bad
byte_good a b c d = rw (pairs_byte, code_good, code_good, code_good, code_good)

-- the low 2 × n bits of a byte are 0 where its last n pairs are: antt compares the two for all n and bytes
pub leftover_byte : (n byte : ℕ) → n < 5 → byte < 256 → eqb (byte % 4 ^ n) 0 ≡ every n (λ e. eqb (get_or (pairs byte) (3 - e) 0) 0)
unfolding tabulate every pairs
leftover_byte n byte h k =
    same_answers true (λ b. eqb (b % 4 ^ n) 0) (λ b. every n (λ e. eqb (get_or (pairs b) (3 - e) 0) 0)) 256 byte
    (same_answers [] (λ m. tabulate 256 (λ b. eqb (b % 4 ^ m) 0)) (λ m. tabulate 256 (λ b. every m (λ e. eqb (get_or (pairs b) (3 - e) 0) 0))) 5 n refl h)
    k

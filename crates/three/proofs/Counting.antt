-- The known fields of a sound record, byte by byte: what its bytes are judged to be adds up to them. Assumes nothing.
use mathlib.Core.Path.{◌≡◌, refl, ap, ◌∙◌}
use mathlib.Core.Bool.{true, false}
use mathlib.Core.List.{List, [], ◌∷◌}
use Prim.Native.Nat.{ℕ, zero, suc, ◌+◌, ◌*◌, ◌-◌, ◌/◌, ◌%◌, ◌<◌, ◌≤◌}
use native.Mathlib.Nat.{add-zero}
use native.Mathlib.Omega.{arith}
use lib.ListN.{length, get_or}
use Rattle.three.specs.Lists.{tabulate}
use Rattle.three.specs.Value.{Three, unknown, low, high, decode}
use Rattle.three.specs.Cube.{Cube, known_fields}
use Rattle.three.specs.Record.{bytes_for, pairs, pair_at, unpack, bad, sound}
use Rattle.three.specs.RecordInCode.{known_pairs, judged}
use Rattle.three.proofs.Bytes.{pair_of_byte}
use Rattle.three.proofs.Soundness.{sound_byte, sound_leftover}
use Rattle.three.proofs.Pack.{length_unpack}

-- ---- fields

pub known_fields_le : (fs : Cube) → known_fields fs ≤ length fs
unfolding known_fields
known_fields_le [] = omega arith
known_fields_le (unknown ∷ fs) = omega (arith, known_fields_le fs)
known_fields_le (low ∷ fs) = omega (arith, known_fields_le fs)
known_fields_le (high ∷ fs) = omega (arith, known_fields_le fs)

abbrev pub count : Three → ℕ
count v = known_fields (v ∷ [])

pub known_cons : (v : Three) (vs : Cube) → known_fields (v ∷ vs) ≡ count v + known_fields vs
unfolding known_fields
known_cons unknown vs = omega arith
known_cons low vs = omega arith
known_cons high vs = omega arith

known_snoc : (n : ℕ) (f : ℕ → Three) → known_fields (tabulate (suc n) f) ≡ known_fields (tabulate n f) + count (f n)
unfolding tabulate
known_snoc zero f = omega (arith, known_cons (f 0) [])
known_snoc (suc n) f =
    let rest : ℕ → Three = λ i. f (suc i) in
    omega (arith, known_cons (f 0) (tabulate (suc n) rest), known_snoc n rest, known_cons (f 0) (tabulate n rest))

known_next : (n m : ℕ) (f : ℕ → Three) → m ≡ suc n → known_fields (tabulate m f) ≡ known_fields (tabulate n f) + count (f n)
known_next n m f e = rw e (known_snoc n f)

-- further fields that are unknown do not count
known_beyond : (n j : ℕ) (f : ℕ → Three) → ((i : ℕ) → n ≤ i → i < n + j → f i ≡ unknown) → known_fields (tabulate (n + j) f) ≡ known_fields (tabulate n f)
unfolding known_fields
known_beyond n zero f blank = rw add-zero
known_beyond n (suc j) f blank =
    let none : count (f (n + j)) ≡ 0 = rw (blank (n + j) (omega arith) (omega arith)) in
    omega (arith, known_next (n + j) (n + suc j) f (omega arith), known_beyond n j f (λ i from h. blank i from (omega arith)))

-- ---- a byte

known_pair : (p : ℕ) (ps : List ℕ) → known_pairs (p ∷ ps) ≡ count (decode p) + known_pairs ps
unfolding known_pairs known_fields decode
known_pair zero ps = omega arith
known_pair (suc zero) ps = omega arith
known_pair (suc (suc p)) ps = omega arith

judged_good : (byte : ℕ) → bad (pairs byte) ≡ false
    → judged byte ≡ count (decode (byte / 64 % 4)) + count (decode (byte / 16 % 4)) + count (decode (byte / 4 % 4)) + count (decode (byte % 4))
unfolding judged pairs known_pairs
judged_good byte good =
    let c : List ℕ = byte / 4 % 4 ∷ byte % 4 ∷ [] in
    rw good (omega (arith, known_pair (byte / 64 % 4) (byte / 16 % 4 ∷ c), known_pair (byte / 16 % 4) c, known_pair (byte / 4 % 4) (byte % 4 ∷ []), known_pair (byte % 4) []))

-- ---- a record, of which the first k bytes are counted

module _ (bytes : List ℕ) where
  abbrev field : ℕ → Three
  field i = decode (pair_at bytes i)

  count_pair : (k j : ℕ) → j < 4 → count (field (4 * k + j)) ≡ count (decode (get_or (pairs (get_or bytes k 0)) j 0))
  count_pair k j h = ap (λ p. count (decode p)) (pair_of_byte bytes k j h)

  count_next : (n m : ℕ) → m ≡ suc n → known_fields (unpack m bytes) ≡ known_fields (unpack n bytes) + count (field n)
  unfolding unpack
  count_next n m e = known_next n m field e

  known_byte : (k : ℕ) → bad (pairs (get_or bytes k 0)) ≡ false → known_fields (unpack (4 * k) bytes) + judged (get_or bytes k 0) ≡ known_fields (unpack (4 * k + 4) bytes)
  unfolding pairs
  known_byte k good =
      let at_0 = count_next (4 * k) (4 * k + 1) (omega arith) in
      let at_1 = count_next (4 * k + 1) (4 * k + 2) (omega arith) in
      let at_2 = count_next (4 * k + 2) (4 * k + 3) (omega arith) in
      let at_3 = count_next (4 * k + 3) (4 * k + 4) (omega arith) in
      let byte = judged_good (get_or bytes k 0) good in
      omega (arith, rw add-zero at (count_pair k 0 (omega arith)), count_pair k 1 (omega arith), count_pair k 2 (omega arith), count_pair k 3 (omega arith))

  pub counted_first : 0 ≡ known_fields (unpack 0 bytes)
  unfolding unpack tabulate known_fields
  counted_first = refl

  pub counted_small : (k n : ℕ) → n ≡ known_fields (unpack (4 * k) bytes) → n ≤ 4 * k
  counted_small k n e = omega (arith, known_fields_le (unpack (4 * k) bytes), length_unpack (4 * k) bytes)

  pub counted_next : (f k n : ℕ) → sound f bytes ≡ true → k < bytes_for f → n ≡ known_fields (unpack (4 * k) bytes) → n + judged (get_or bytes k 0) ≡ known_fields (unpack (4 * (k + 1)) bytes)
  counted_next f k n s h e =
      let four : 4 * k + 4 ≡ 4 * (k + 1) = omega arith in
      ap (λ m. m + judged (get_or bytes k 0)) e ∙ known_byte k (sound_byte f bytes s k h) ∙ ap (λ m. known_fields (unpack m bytes)) four

  pub counted_last : (f k n : ℕ) → sound f bytes ≡ true → get_or bytes (bytes_for f - 1) 0 < 256 → k ≡ bytes_for f → n ≡ known_fields (unpack (4 * k) bytes) → n ≡ known_fields (unpack f bytes)
  unfolding unpack decode
  counted_last f k n s small done e =
      let whole : 4 * k ≡ f + (4 * k - f) = omega arith in
      e ∙ rw whole (known_beyond f (4 * k - f) field (λ i from h. ap decode (sound_leftover f bytes s small i from (omega arith))))

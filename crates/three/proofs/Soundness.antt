-- Laws of a record that 14 does not refuse: no pair 11, no leftover bit, and so the record of its fields. Assumes nothing.
use mathlib.Core.Path.{◌≡◌, sym, ap, ap₂, ◌∙◌}
use mathlib.Core.Bool.{Bool, true, false, not, ◌&&◌}
use mathlib.Core.List.{List}
use Prim.Native.Nat.{ℕ, ◌+◌, ◌*◌, ◌-◌, ◌/◌, ◌%◌, ◌<◌, ◌≤◌}
use native.Mathlib.Nat.{add-zero}
use native.Mathlib.Omega.{arith}
use borrow.Author.Tests.{eqb-true, not-true, ltb-true, ltb-false}
use lib.Dec.{eqb, ltb}
use lib.ListN.{length, get_or, take, length-append, get_or-eq_default}
use lib.Seq.{get_or-take, length-take-le}
use Rattle.three.specs.Lists.{every, over}
use Rattle.three.specs.Value.{Three, unknown, code, decode}
use Rattle.three.specs.Cube.{Cube}
use Rattle.three.specs.Record.{bytes_for, byte_of, byte_at, pack, pairs, pair_at, unpack, bad, leftover, sound}
use Rattle.three.specs.RecordInCode.{IsRecord}
use Rattle.three.proofs.Lists.{and_parts, by_test, get_or_tabulate, get_or_beyond, tabulate_ext, tabulate_get_or, every_at, every_all, every_ext}
use Rattle.three.proofs.Bytes.{pair_digit, pair_of_byte, code_decode, byte_small, no_11, leftover_byte, whole_byte, byte_good}
use Rattle.three.proofs.Pack.{get_or_pack, length_pack, length_unpack, pair_pack, take_over}

-- ---- a sound record

abbrev pub good_byte : List ℕ → ℕ → Bool
good_byte bytes k = not (bad (pairs (get_or bytes k 0)))

pub sound_byte : (f : ℕ) (bytes : List ℕ) → sound f bytes ≡ true → (k : ℕ) → k < bytes_for f → bad (pairs (get_or bytes k 0)) ≡ false
unfolding sound
sound_byte f bytes s k h = not-true _ (every_at (bytes_for f) (good_byte bytes) (and_parts (every (bytes_for f) (good_byte bytes)) _ s).0 k h)

pub sound_pair : (f : ℕ) (bytes : List ℕ) → sound f bytes ≡ true → (i : ℕ) → i < 4 * bytes_for f → pair_at bytes i < 3
unfolding pair_at
sound_pair f bytes s i h =
    let not_3 = no_11 (pairs (get_or bytes (i / 4) 0)) (sound_byte f bytes s (i / 4) (omega arith)) (i % 4) in
    let digit = pair_digit (get_or bytes (i / 4) 0) (i % 4) (omega arith) in
    omega arith

-- the pair that is e places from the end is blank
abbrev blank_pair : ℕ → List ℕ → ℕ → Bool
blank_pair f bytes e = eqb (pair_at bytes (4 * bytes_for f - 1 - e)) 0

last_pair : (bytes : List ℕ) (n e : ℕ) → 0 < n → e < 4 → get_or (pairs (get_or bytes (n - 1) 0)) (3 - e) 0 ≡ pair_at bytes (4 * n - 1 - e)
last_pair bytes n e some h =
    let place : 4 * (n - 1) + (3 - e) ≡ 4 * n - 1 - e = omega arith in
    sym (pair_of_byte bytes (n - 1) (3 - e) (omega arith)) ∙ ap (pair_at bytes) place

leftover_pairs : (f : ℕ) (bytes : List ℕ) → get_or bytes (bytes_for f - 1) 0 < 256 → eqb (leftover f bytes) 0 ≡ every (4 * bytes_for f - f) (blank_pair f bytes)
unfolding leftover
leftover_pairs f bytes small =
    let n : ℕ = bytes_for f in
    let last : ℕ = get_or bytes (n - 1) 0 in
    leftover_byte (4 * n - f) last (omega arith) small
    ∙ every_ext (4 * n - f) (λ e. eqb (get_or (pairs last) (3 - e) 0) 0) (blank_pair f bytes) (λ e h. ap (λ p. eqb p 0) (last_pair bytes n e (omega arith) (omega arith)))

pub sound_leftover : (f : ℕ) (bytes : List ℕ) → sound f bytes ≡ true → get_or bytes (bytes_for f - 1) 0 < 256 → (i : ℕ) → f ≤ i → i < 4 * bytes_for f → pair_at bytes i ≡ 0
unfolding sound
sound_leftover f bytes s small i from h =
    let n : ℕ = bytes_for f in
    let place : 4 * n - 1 - (4 * n - 1 - i) ≡ i = omega arith in
    let none = sym (leftover_pairs f bytes small) ∙ (and_parts (every n (good_byte bytes)) (eqb (leftover f bytes) 0) s).1 in
    ap (pair_at bytes) (sym place) ∙ eqb-true _ _ (every_at (4 * n - f) (blank_pair f bytes) none (4 * n - 1 - i) (omega arith))

pub sound_take : (f : ℕ) (bytes : List ℕ) → sound f (take (bytes_for f) bytes) ≡ sound f bytes
unfolding sound leftover
sound_take f bytes =
    let n : ℕ = bytes_for f in
    ap₂ (λ x y. x && y)
    (every_ext n (good_byte (take n bytes)) (good_byte bytes) (λ k h. rw get_or-take))
    (rw (get_or-take n bytes (n - 1) 0 (omega arith)))

pub sound_pack : (fs : Cube) → sound (length fs) (pack fs) ≡ true
unfolding sound byte_at code
sound_pack fs =
    let f : ℕ = length fs in
    let n : ℕ = bytes_for f in
    let good = every_all n (good_byte (pack fs)) (λ k h. rw (get_or_pack fs k h, byte_good)) in
    let small : get_or (pack fs) (n - 1) 0 < 256 = rw (get_or_pack fs (n - 1) (omega arith)) (byte_small _ _ _ _) in
    let blank = every_all (4 * n - f) (blank_pair f (pack fs)) (λ e h. rw (pair_pack fs (4 * n - 1 - e) (omega arith), get_or-eq_default fs unknown {n = 4 * n - 1 - e} (omega arith))) in
    ap₂ (λ x y. x && y) good (leftover_pairs f (pack fs) small ∙ blank)

pub record_over : (f : ℕ) (fs : Cube) (d : List ℕ) → length fs ≡ f → bytes_for f ≤ length d → IsRecord f (over (pack fs) d)
unfolding over
record_over f fs d e room =
    let long : length (pack fs) ≡ bytes_for f = rw (length_pack, e) in
    record {
      fits = simp length-append (omega arith);
      good = sym (sound_take f (over (pack fs) d)) ∙ ap (sound f) (take_over f fs d e) ∙ rw (← e) (sound_pack fs);
    }

-- ---- a sound record is that of its fields

module _ (f : ℕ) (bytes : List ℕ) (small : (i : ℕ) → get_or bytes i 0 < 256) (s : sound f bytes ≡ true) where
  pub code_unpack : (i : ℕ) → i < 4 * bytes_for f → code (get_or (unpack f bytes) i unknown) ≡ pair_at bytes i
  unfolding unpack code
  code_unpack i h =
      let field : ℕ → Three = λ n. decode (pair_at bytes n) in
      by_test (ltb i f)
      (λ t. ap code (get_or_tabulate f field i unknown (ltb-true i f t)) ∙ code_decode (pair_at bytes i) (sound_pair f bytes s i h))
      (λ t. let from = ltb-false i f t in ap code (get_or_beyond f field i unknown from) ∙ sym (sound_leftover f bytes s (small _) i from h))

  code_pair : (k j : ℕ) → k < bytes_for f → j < 4 → code (get_or (unpack f bytes) (4 * k + j) unknown) ≡ get_or (pairs (get_or bytes k 0)) j 0
  code_pair k j h below = code_unpack (4 * k + j) (omega arith) ∙ pair_of_byte bytes k j below

  byte_at_unpack : (k : ℕ) → k < bytes_for f → byte_at (unpack f bytes) k ≡ get_or bytes k 0
  unfolding byte_at byte_of pairs
  byte_at_unpack k h =
      omega (arith, whole_byte (get_or bytes k 0) (small k), rw add-zero at (code_pair k 0 h (omega arith)), code_pair k 1 h (omega arith), code_pair k 2 h (omega arith), code_pair k 3 h (omega arith))

pub pack_unpack : (f : ℕ) (bytes : List ℕ) → bytes_for f ≤ length bytes → ((i : ℕ) → get_or bytes i 0 < 256) → sound f bytes ≡ true → pack (unpack f bytes) ≡ take (bytes_for f) bytes
unfolding pack
pack_unpack f bytes fits small s =
    let n : ℕ = bytes_for f in
    rw length_unpack
    (tabulate_ext n (byte_at (unpack f bytes)) (λ k. get_or (take n bytes) k 0) (λ k h. byte_at_unpack f bytes small s k h ∙ sym (get_or-take n bytes k 0 h))
    ∙ rw (length-take-le n bytes fits) at (tabulate_get_or (take n bytes) 0))

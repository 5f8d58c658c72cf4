-- A record's bytes and those of the latches held beside it: what the code does to them byte by byte is what the run does to fields. Assumes nothing.
use mathlib.Core.Path.{◌≡◌, refl, sym, ap₂, ◌∙◌}
use mathlib.Core.Bool.{Bool, false, ◌||◌}
use mathlib.Core.List.{List, [], ◌∷◌, map}
use Prim.Native.Nat.{ℕ, zero, suc, ◌<◌, ◌≤◌}
use native.Mathlib.Nat.{zero-add}
use native.Mathlib.Omega.{arith}
use borrow.Author.Tests.{ltb-true, ltb-false}
use lib.Bits.{bit_or}
use lib.Dec.{ltb}
use lib.ListN.{length, get_or, take, replicate, get_or-append, get_or-eq_default}
use lib.Seq.{ext_get_or, get_or-take, length-take-le}
use Rattle.three.specs.Lists.{adjust, over}
use Rattle.three.specs.Cube.{Cube}
use Rattle.three.specs.Record.{bytes_for, byte_at, pack, unpack, sound}
use Rattle.three.specs.RecordInCode.{IsRecord}
use Rattle.three.proofs.Lists.{by_test}
use Rattle.three.proofs.Loops.{get_or_paste, over_paste}
use Rattle.three.proofs.Pack.{length_pack, get_or_pack, unpack_pack, unpack_take}
use Rattle.three.proofs.Soundness.{sound_pack, sound_take}
use Rattle.cubes.specs.Run.{hold, differing}
use Rattle.cubes.specs.HeldInCode.{held_pair, held_byte, kept_byte, differing_byte}
use Rattle.cubes.proofs.Pairs.{kept_byte_lem, widened_byte}
use Rattle.cubes.proofs.Raised.{byte_beyond}

-- ---- a record's bytes

-- f gives the first n bytes of a record of these fields, where it ends 0
abbrev pub Bytes : ℕ → (ℕ → ℕ) → Cube → Type 0
Bytes n f v = (i : ℕ) → i < n → f i ≡ byte_at v i

module _ (v : Cube) (i : ℕ) where
  pub packed_byte : get_or (pack v) i 0 ≡ byte_at v i
  packed_byte =
      by_test (ltb i (length (pack v)))
      (λ t. get_or_pack v i (rw (length_pack v) at (ltb-true i (length (pack v)) t)))
      (λ t. let h = ltb-false i (length (pack v)) t in get_or-eq_default (pack v) 0 h ∙ sym (byte_beyond v i (rw (length_pack v) at h)))

  -- a record that was stored into zeros
  pub padded_byte : (n : ℕ) → get_or (over (pack v) (replicate n 0)) i 0 ≡ byte_at v i
  padded_byte n =
      by_test (ltb i (length (pack v)))
      (λ t. within (ltb-true i (length (pack v)) t))
      (λ t. beyond (ltb-false i (length (pack v)) t))
    where
      zeros : (m k : ℕ) → get_or {A = ℕ} (replicate m 0) k 0 ≡ 0
      zeros zero k = refl
      zeros (suc m) zero = refl
      zeros (suc m) (suc k) = zeros m k

      within : i < length (pack v) → get_or (over (pack v) (replicate n 0)) i 0 ≡ byte_at v i
      within h = unfold over in get_or-append (pack v) _ 0 i h ∙ packed_byte

      beyond : length (pack v) ≤ i → get_or (over (pack v) (replicate n 0)) i 0 ≡ byte_at v i
      beyond h =
          rw (← over_paste (replicate n 0) (pack v)) (get_or_paste (replicate n 0) 0 (pack v) (length (pack v)) i 0 (omega arith) (omega arith) (rw zero-add h))
          ∙ zeros n i ∙ sym (byte_beyond v i (rw (length_pack v) at h))

-- bytes that are those of a record open with it
module _ {f : ℕ} (bytes : List ℕ) (v : Cube) (sized : length v ≡ f) (room : bytes_for f ≤ length bytes) (same : Bytes (bytes_for f) (λ i. get_or bytes i 0) v) where
  opens : take (bytes_for f) bytes ≡ pack v
  opens =
      let long : length (take (bytes_for f) bytes) ≡ bytes_for f = length-take-le (bytes_for f) bytes room in
      ext_get_or 0 (take (bytes_for f) bytes) (pack v) (long ∙ sym (rw (length_pack, sized)))
      (λ i h. let l : i < bytes_for f = omega arith in get_or-take (bytes_for f) bytes i 0 l ∙ same i l ∙ sym (get_or_pack v i (rw sized l)))

  pub bytes_read : unpack f bytes ≡ v
  bytes_read = sym (unpack_take f bytes) ∙ ap₂ unpack (sym sized) opens ∙ unpack_pack v

  pub bytes_record : IsRecord f bytes
  bytes_record = record { fits = room; good = sym (sound_take f bytes) ∙ ap₂ sound (sym sized) opens ∙ sound_pack v }

-- ---- held latches

abbrev pub HeldBytes : ℕ → List ℕ → List Bool → Type 0
HeldBytes n held flags = (i : ℕ) → i < n → get_or held i 0 ≡ held_byte flags i

-- at first no latch is held
pub none_held : {A : Type 0} (ls : List A) (k : ℕ) → held_byte (map (λ (l : A). false) ls) k ≡ 0
unfolding held_byte held_pair
none_held {A} ls k = simp (free ls)
  where
    free : (ls : List A) (i : ℕ) → get_or (map (λ (l : A). false) ls) i false ≡ false
    free [] i = refl
    free (l ∷ ls) zero = refl
    free (l ∷ ls) (suc i) = free ls i

module _ {n : ℕ} (held : List ℕ) (flags : List Bool) (holding : HeldBytes n held flags) where
  -- held latches set to X
  pub bytes_kept : (f : ℕ → ℕ) (v : Cube) → Bytes n f v → Bytes n (λ i. kept_byte (f i) (get_or held i 0)) (hold flags v)
  bytes_kept f v same i h = ap₂ kept_byte (same i h) (holding i h) ∙ kept_byte_lem flags v i

  -- held too where two cubes differ
  pub bytes_widened : (f g : ℕ → ℕ) (v b : Cube) → length flags ≡ length v → length v ≡ length b → Bytes n f v → Bytes n g b
      → (i : ℕ) → i < n → bit_or (get_or held i 0) (differing_byte (f i) (g i)) ≡ held_byte (adjust ◌||◌ flags (differing v b)) i
  bytes_widened f g v b sf sv ef eg i h = ap₂ bit_or (holding i h) (ap₂ differing_byte (ef i h) (eg i h)) ∙ widened_byte flags v b sf sv i

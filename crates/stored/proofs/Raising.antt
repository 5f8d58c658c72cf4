-- The record of a cube from the record of its latches: moved up by one field behind the mark, byte by byte. Assumes nothing.
use mathlib.Core.Path.{◌≡◌, sym, ap, ap₂, ◌∙◌}
use mathlib.Core.Bool.{Bool}
use mathlib.Core.List.{List, ◌∷◌}
use Rattle.std.specs.Prelude.{Option}
use Prim.Native.Nat.{ℕ, zero, suc, ◌+◌, ◌-◌, ◌*◌, ◌<◌, ◌≤◌}
use native.Mathlib.Numerals.{add-one}
use native.Mathlib.Omega.{arith}
use borrow.Rule.Slice.PartMut.{put_mid}
use lib.Bits.{bit_and}
use lib.Dec.{eqb}
use lib.ListN.{length, get_or, set, take, get_or-append}
use lib.Seq.{paste, get_or-take, length-take-le}
use Rattle.three.specs.Lists.{first}
use Rattle.three.specs.Value.{code, known}
use Rattle.three.specs.Cube.{Cube}
use Rattle.three.proofs.First.{first_ext}
use Rattle.three.proofs.Loops.{Stored, stored_first}
use Rattle.three.proofs.Lists.{length_tabulate, get_or_tabulate, every_ext}
use Rattle.cubes.specs.Buffer.{cube_bytes, pack_cube}
use Rattle.cubes.specs.BufferInCode.{raised_byte, marked_byte}
use Rattle.cubes.proofs.Raised.{Marked, bytes_packed}
use Rattle.cubes.proofs.Held.{Bytes}
use Rattle.stored.specs.CubesInCode.{raised_bytes, covers_from, FoundFirst}
use Rattle.stored.proofs.Filled.{filled_next, filled_last}

-- a list pasted at the front
pub front_byte : (d s : List ℕ) (n i : ℕ) → i < n → n ≤ length s → get_or (paste d 0 s n) i 0 ≡ get_or s i 0
front_byte d s n i h l = get_or-append (take n s) _ 0 i (rw (length-take-le n s l) h) ∙ get_or-take n s i 0 h

module _ (len mark : ℕ) (latches : List ℕ) where
  pub length_raised : length (raised_bytes len mark latches) ≡ len
  unfolding raised_bytes
  length_raised = length_tabulate len _

  -- ---- the loop: what stands above the next byte is known too

  module _ (d : List ℕ) where
    pub record Raised (out : List ℕ) (i above : ℕ) : Type 0 where
      pub stored : Stored d 0 (raised_bytes len mark latches) len out i
      pub known : above ≡ get_or (mark ∷ latches) i 0

    pub raised_first : {above : ℕ} → above ≡ mark → Raised d 0 above
    raised_first e = record { stored = stored_first _ _ _ _; known = e }

    module _ (long : length d ≡ len) {out : List ℕ} {i above : ℕ} (r : Raised out i above) where
      pub raised_next : {k : ℕ} → i < length d → k ≡ raised_byte above (get_or latches i 0) → Raised (set out i k) (i + 1) (get_or latches i 0)
      unfolding raised_bytes
      raised_next h e = record {
        stored =
            filled_next long (omega (arith, length_raised)) r.stored h
            (e ∙ ap (λ (x : ℕ). raised_byte x (get_or latches i 0)) r.known ∙ sym (get_or_tabulate len _ i 0 (omega (arith, long))));
        known = ap (λ (n : ℕ). get_or (mark ∷ latches) n 0) (sym (add-one i));
      }

      pub raised_last : (t : List ℕ) (at : ℕ) → length d ≤ i → put_mid at (at + len - at) t out ≡ paste t at (raised_bytes len mark latches) len
      raised_last t at h = filled_last long (omega (arith, length_raised)) r.stored t at (omega (arith, length_raised)) h

  -- ---- a record of these latches

  module _ (size : ℕ) (long : len ≡ cube_bytes size) (v : Cube) (same : Bytes len (λ i. get_or latches i 0) v) where
    marked_raised : (i : ℕ) → i < len → raised_byte (get_or (mark ∷ latches) i 0) (get_or latches i 0) ≡ marked_byte mark v i
    unfolding marked_byte
    marked_raised zero h = ap (raised_byte mark) (same 0 h)
    marked_raised (suc i) h = ap₂ raised_byte (same i (omega arith)) (same (suc i) h)

    pub raised_bytes_lem : Marked size (λ i. get_or (raised_bytes len mark latches) i 0) mark v
    unfolding raised_bytes
    raised_bytes_lem i h = let l : i < len = rw long h in get_or_tabulate len _ i 0 l ∙ marked_raised i l

    pub raised_packed : (m : Bool) → mark ≡ code (known m) → length v ≡ size → raised_bytes len mark latches ≡ pack_cube m v
    unfolding raised_bytes
    raised_packed m e sized = rw long (bytes_packed _ m v sized (λ i h. marked_raised i (rw long h) ∙ ap (λ (p : ℕ). marked_byte p v i) e))

-- what is looked for may stand at the front of a longer array
module _ (len : ℕ) (cubes d s : List ℕ) (b : List ℕ) (e : b ≡ paste d 0 s len) (l : len ≤ length s) where
  pub covers_front : (at : ℕ) → covers_from len cubes b at ≡ covers_from len cubes s at
  unfolding covers_from
  covers_front at = every_ext len _ _ (λ i h. ap (λ (y : ℕ). eqb (bit_and (get_or cubes (at + i) 0) y) (get_or cubes (at + i) 0)) (ap (λ (x : List ℕ). get_or x i 0) e ∙ front_byte d s len i h l))

  pub found_front : (n : ℕ) (o : Option ℕ) → FoundFirst n (first n (λ k. covers_from len cubes b (k * len))) o → FoundFirst n (first n (λ k. covers_from len cubes s (k * len))) o
  found_front n o found = rw (first_ext n (λ k. covers_from len cubes b (k * len)) (λ k. covers_from len cubes s (k * len)) (λ k h. covers_front (k * len))) at found

-- A cube as it is stored: its length, its fields behind the mark, and that what was stored is read back. Assumes nothing.
use mathlib.Core.Path.{◌≡◌, refl, sym, ap, ap₂, ◌∙◌}
use mathlib.Core.Bool.{Bool, true, false, not, ◌&&◌}
use mathlib.Core.List.{List, ◌∷◌}
use Prim.Native.Nat.{ℕ, suc, ◌*◌, ◌^◌, ◌<◌, ◌≤◌}
use native.Mathlib.Omega.{arith}
use borrow.Author.Tests.{leb-true}
use lib.Dec.{eqb, leb}
use lib.ListN.{length, get_or, take, drop}
use Rattle.three.specs.Lists.{tabulate, every}
use Rattle.three.specs.Value.{code, known}
use Rattle.three.specs.Cube.{Cube}
use Rattle.three.specs.Record.{bytes_for, pack, pair_at, unpack, sound}
use Rattle.three.specs.RecordInCode.{IsRecord}
use Rattle.three.proofs.Lists.{and_parts, every_at, length_tabulate}
use Rattle.three.proofs.Pack.{length_pack, pair_pack, pair_take, unpack_pack, unpack_take}
use Rattle.three.proofs.Soundness.{sound_pack, sound_take, pack_unpack}
use Rattle.cubes.specs.Buffer.{cube_bytes, pack_cube, cube_of, sound_cube, cube_in}
use Rattle.cubes.specs.BufferInCode.{longest_cube, mark_of, IsCube}

-- ---- its length

pub some_bytes : (latches : ℕ) → 1 ≤ cube_bytes latches
unfolding cube_bytes
some_bytes latches = omega arith

pub few_bytes : {latches : ℕ} → latches ≤ 512 → cube_bytes latches ≤ longest_cube
unfolding cube_bytes
few_bytes few = omega arith

-- the latches alone take no more
pub latch_bytes : (latches : ℕ) → bytes_for latches ≤ cube_bytes latches
unfolding cube_bytes
latch_bytes latches = omega arith

-- all cubes of 8 latches and less fit into 19,683 bytes
pub all_fit : (latches : ℕ) → latches ≤ 8 → 3 ^ latches * cube_bytes latches ≤ 19683
all_fit latches few = leb-true _ _ (every_at 9 fits computed latches (omega arith))
  where
    fits : ℕ → Bool
    fits n = leb (3 ^ n * cube_bytes n) 19683

    computed : every 9 fits ≡ true
    computed = unfold every cube_bytes in refl

-- ---- it is a record with a field for its mark and one for each latch

module _ (latches : ℕ) where
  pub cube_bytes_lem : cube_bytes latches ≡ bytes_for (suc latches)
  unfolding cube_bytes
  cube_bytes_lem = refl

  module _ (bytes : List ℕ) where
    pub cube_fields : unpack (suc latches) bytes ≡ mark_of bytes ∷ cube_of latches bytes
    unfolding cube_of unpack tabulate mark_of
    cube_fields = refl

    pub cube_dropped : drop 1 (unpack (suc latches) bytes) ≡ cube_of latches bytes
    unfolding cube_of
    cube_dropped = refl

    pub cube_of_sized : length (cube_of latches bytes) ≡ latches
    unfolding cube_of unpack tabulate
    cube_of_sized = length_tabulate latches _

    pub cube_judged : (sound (suc latches) bytes && not (eqb (pair_at bytes 0) 0)) ≡ sound_cube latches bytes
    unfolding sound_cube
    cube_judged = refl

    pub cube_record : IsCube latches bytes → IsRecord (suc latches) bytes
    unfolding cube_bytes sound_cube
    cube_record is = record { fits = is.fits; good = (and_parts (sound (suc latches) bytes) _ is.good).0 }

    pub cube_repacked : IsRecord (suc latches) bytes → ((i : ℕ) → get_or bytes i 0 < 256) → take (cube_bytes latches) bytes ≡ pack (mark_of bytes ∷ cube_of latches bytes)
    unfolding cube_bytes
    cube_repacked is small = sym (pack_unpack (suc latches) bytes is.fits small is.good) ∙ ap pack cube_fields

-- a cube by its number, from bytes that are as long as the code says
pub cube_at_lem : (latches : ℕ) {len : ℕ} → len ≡ cube_bytes latches → (buffer : List ℕ) (k : ℕ) → cube_of latches (drop (k * len) buffer) ≡ cube_in latches buffer k
unfolding cube_in
cube_at_lem latches e buffer k = ap (λ (n : ℕ). cube_of latches (drop (k * n) buffer)) e

pub cube_in_sized : (latches : ℕ) (buffer : List ℕ) (k : ℕ) → length (cube_in latches buffer k) ≡ latches
unfolding cube_in
cube_in_sized latches buffer k = cube_of_sized latches _

module _ {latches : ℕ} (mark : Bool) (v : Cube) (sized : length v ≡ latches) where
  pub cube_long : length (pack_cube mark v) ≡ cube_bytes latches
  unfolding cube_bytes pack_cube
  cube_long = rw (length_pack, sized)

  -- ---- what was stored is read back, and is sound

  module _ (bytes : List ℕ) (stored : take (cube_bytes latches) bytes ≡ pack_cube mark v) where
    pub cube_read : cube_of latches bytes ≡ v
    unfolding cube_bytes pack_cube cube_of
    cube_read = ap (drop 1) (sym (unpack_take (suc latches) bytes) ∙ ap₂ unpack (sym (ap suc sized)) stored ∙ unpack_pack (known mark ∷ v))

    marked_pair : pair_at bytes 0 ≡ code (known mark)
    unfolding cube_bytes pack_cube
    marked_pair = sym (pair_take (bytes_for (suc latches)) bytes 0 (omega arith)) ∙ ap (λ (l : List ℕ). pair_at l 0) stored ∙ pair_pack (known mark ∷ v) 0 (omega arith)

    pub cube_sound : cube_bytes latches ≤ length bytes → IsCube latches bytes
    unfolding cube_bytes pack_cube sound_cube
    cube_sound room = record {
      fits = room;
      good = ap₂ ◌&&◌ (sym (sound_take (suc latches) bytes) ∙ ap₂ sound (sym (ap suc sized)) stored ∙ sound_pack (known mark ∷ v)) (ap (λ (p : ℕ). not (eqb p 0)) marked_pair ∙ go mark);
    }
      where
        go : (m : Bool) → not (eqb (code (known m)) 0) ≡ true
        go false = unfold known code in refl
        go true = unfold known code in refl

-- The bytes of a stored cube: its latches moved up by one field behind the mark, and down again. Assumes nothing.
use mathlib.Core.Path.{◌≡◌, sym, ap, ap₂, ◌∙◌}
use mathlib.Core.Bool.{Bool}
use mathlib.Core.List.{List, ◌∷◌}
use Prim.Native.Nat.{ℕ, zero, suc, ◌+◌, ◌*◌, ◌<◌, ◌≤◌}
use native.Mathlib.Omega.{arith}
use lib.ListN.{length, get_or, get_or-eq_default}
use lib.Seq.{get_or-take}
use Rattle.three.specs.Lists.{tabulate}
use Rattle.three.specs.Value.{Three, unknown, code, known}
use Rattle.three.specs.Cube.{Cube}
use Rattle.three.specs.Record.{bytes_for, byte_of, byte_at, pack}
use Rattle.three.specs.RecordInCode.{IsRecord}
use Rattle.three.proofs.Lists.{tabulate_ext}
use Rattle.three.proofs.Bytes.{code_small, byte_small}
use Rattle.three.proofs.Pack.{get_or_pack}
use Rattle.cubes.specs.Buffer.{cube_bytes, pack_cube, cube_of}
use Rattle.cubes.specs.BufferInCode.{raised_byte, lowered_byte, marked_byte, mark_of}
use Rattle.cubes.proofs.StoredCube.{cube_repacked, cube_of_sized}

-- ---- the bytes of a record, its leftover fields and those beyond being X

pub record_byte : (v : Cube) (k : ℕ) → byte_at v k < 256
unfolding byte_at
record_byte v k = byte_small _ _ _ _

pub byte_beyond : (v : Cube) (k : ℕ) → bytes_for (length v) ≤ k → byte_at v k ≡ 0
unfolding byte_at byte_of code
byte_beyond v k h =
    rw (get_or-eq_default v unknown {n = 4 * k} (omega arith), get_or-eq_default v unknown {n = 4 * k + 1} (omega arith), get_or-eq_default v unknown {n = 4 * k + 2} (omega arith), get_or-eq_default v unknown {n = 4 * k + 3} (omega arith))

-- ---- the latches moved up by one field

-- behind a field of this value
pub byte_marked : (x : Three) (v : Cube) (k : ℕ) → byte_at (x ∷ v) k ≡ marked_byte (code x) v k
unfolding byte_at byte_of marked_byte raised_byte
byte_marked x v zero =
    omega (arith, code_small x, code_small (get_or v 0 unknown), code_small (get_or v 1 unknown), code_small (get_or v 2 unknown), code_small (get_or v 3 unknown))
byte_marked x v (suc k) =
    let at_0 : 4 * suc k ≡ suc (4 * k + 3) = omega arith in
    let at_1 : 4 * suc k + 1 ≡ suc (4 * suc k) = omega arith in
    let at_2 : 4 * suc k + 2 ≡ suc (4 * suc k + 1) = omega arith in
    let at_3 : 4 * suc k + 3 ≡ suc (4 * suc k + 2) = omega arith in
    let field : ℕ → ℕ = λ n. code (get_or (x ∷ v) n unknown) in
    omega (
      arith,
      ap field at_0,
      ap field at_1,
      ap field at_2,
      ap field at_3,
      code_small (get_or v (4 * k) unknown),
      code_small (get_or v (4 * k + 1) unknown),
      code_small (get_or v (4 * k + 2) unknown),
      code_small (get_or v (4 * k + 3) unknown),
      code_small (get_or v (4 * suc k) unknown),
      code_small (get_or v (4 * suc k + 1) unknown),
      code_small (get_or v (4 * suc k + 2) unknown),
      code_small (get_or v (4 * suc k + 3) unknown),
    )

-- and down again
lowered : (a b c : ℕ) → b < 256 → c < 256 → lowered_byte (raised_byte a b) (raised_byte b c) ≡ b
unfolding lowered_byte raised_byte
lowered a b c hb hc = omega arith

pub marked_lowered : (p : ℕ) (v : Cube) (k : ℕ) → lowered_byte (marked_byte p v k) (marked_byte p v (suc k)) ≡ byte_at v k
unfolding marked_byte
marked_lowered p v zero = lowered p (byte_at v 0) (byte_at v 1) (record_byte v 0) (record_byte v 1)
marked_lowered p v (suc k) = lowered (byte_at v k) (byte_at v (suc k)) (byte_at v (suc (suc k))) (record_byte v (suc k)) (record_byte v (suc (suc k)))

-- ---- the bytes of a stored cube

-- f gives the bytes of a cube of so many latches, behind this pair
abbrev pub Marked : ℕ → (ℕ → ℕ) → ℕ → Cube → Type 0
Marked latches f p v = (i : ℕ) → i < cube_bytes latches → f i ≡ marked_byte p v i

pub packed_bytes : {latches : ℕ} (mark : Bool) (v : Cube) → length v ≡ latches → Marked latches (λ i. get_or (pack_cube mark v) i 0) (code (known mark)) v
unfolding cube_bytes pack_cube
packed_bytes mark v sized i h = get_or_pack (known mark ∷ v) i (rw sized h) ∙ byte_marked (known mark) v i

pub bytes_packed : {latches : ℕ} (f : ℕ → ℕ) (mark : Bool) (v : Cube) → length v ≡ latches → Marked latches f (code (known mark)) v → tabulate (cube_bytes latches) f ≡ pack_cube mark v
unfolding cube_bytes pack_cube pack
bytes_packed {latches} f mark v sized same =
    tabulate_ext (bytes_for (suc latches)) f (byte_at (known mark ∷ v)) (λ i h. same i h ∙ sym (byte_marked (known mark) v i))
    ∙ ap (λ (n : ℕ). tabulate (bytes_for (suc n)) (byte_at (known mark ∷ v))) (sym sized)

-- those of a given cube
module _ {latches : ℕ} (bytes : List ℕ) (is : IsRecord (suc latches) bytes) (small : (i : ℕ) → get_or bytes i 0 < 256) where
  pub given_bytes : Marked latches (λ i. get_or bytes i 0) (code (mark_of bytes)) (cube_of latches bytes)
  unfolding cube_bytes
  given_bytes i h =
      sym (get_or-take (cube_bytes latches) bytes i 0 h)
      ∙ ap (λ (l : List ℕ). get_or l i 0) (cube_repacked latches bytes is small)
      ∙ get_or_pack (mark_of bytes ∷ cube_of latches bytes) i (rw (cube_of_sized latches bytes) h)
      ∙ byte_marked (mark_of bytes) (cube_of latches bytes) i

  -- moved down by one field; below the last byte is nothing
  pub given_lowered : (k : ℕ) → suc k < cube_bytes latches → lowered_byte (get_or bytes k 0) (get_or bytes (suc k) 0) ≡ byte_at (cube_of latches bytes) k
  given_lowered k h = ap₂ lowered_byte (given_bytes k (omega arith)) (given_bytes (suc k) h) ∙ marked_lowered (code (mark_of bytes)) (cube_of latches bytes) k

  pub given_last : (k : ℕ) → suc k ≡ cube_bytes latches → lowered_byte (get_or bytes k 0) 0 ≡ byte_at (cube_of latches bytes) k
  unfolding cube_bytes
  given_last k e =
      let beyond : byte_at (mark_of bytes ∷ cube_of latches bytes) (suc k) ≡ 0 = byte_beyond _ (suc k) (omega (arith, cube_of_sized latches bytes)) in
      ap₂ lowered_byte (given_bytes k (omega arith)) (sym beyond ∙ byte_marked (mark_of bytes) (cube_of latches bytes) (suc k)) ∙ marked_lowered (code (mark_of bytes)) (cube_of latches bytes) k

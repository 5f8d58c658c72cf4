-- The latches of a cube in a buffer: its record moved down by one field, byte by byte. Assumes nothing.
use mathlib.Core.Path.{◌≡◌, sym, ap, ap₂, ◌∙◌}
use mathlib.Core.List.{List}
use Prim.Native.Nat.{ℕ, suc, ◌+◌, ◌<◌}
use native.Mathlib.Omega.{arith}
use lib.ListN.{get_or, drop}
use lib.Seq.{get_or-drop}
use Rattle.three.specs.Record.{byte_at}
use Rattle.three.specs.RecordInCode.{IsRecord}
use Rattle.cubes.specs.Buffer.{cube_bytes, cube_of}
use Rattle.cubes.specs.BufferInCode.{lowered_byte}
use Rattle.cubes.proofs.Raised.{given_lowered, given_last}

module _ (latches len : ℕ) (size : len ≡ cube_bytes latches) (cubes : List ℕ) (small : (i : ℕ) → get_or cubes i 0 < 256) (at : ℕ) (is : IsRecord (suc latches) (drop at cubes)) (k : ℕ) where
  small_behind : (i : ℕ) → get_or (drop at cubes) i 0 < 256
  small_behind i = rw get_or-drop (small (at + i))

  -- below the last byte is nothing
  pub lowered_last : k + 1 ≡ len → {r : ℕ} → r ≡ lowered_byte (get_or cubes (at + k) 0) 0 → r ≡ byte_at (cube_of latches (drop at cubes)) k
  lowered_last h e =
      e ∙ ap (λ (x : ℕ). lowered_byte x 0) (sym (get_or-drop at cubes k 0)) ∙ given_last (drop at cubes) is small_behind k (omega (arith, size))

  pub lowered_inner : k < len → (k + 1 ≡ len → ⊥) → {r : ℕ} → r ≡ lowered_byte (get_or cubes (at + k) 0) (get_or cubes (at + k + 1) 0) → r ≡ byte_at (cube_of latches (drop at cubes)) k
  lowered_inner h more e =
      let below : at + k + 1 ≡ at + suc k = omega arith in
      e
      ∙ ap₂ lowered_byte (sym (get_or-drop at cubes k 0)) (ap (λ (i : ℕ). get_or cubes i 0) below ∙ sym (get_or-drop at cubes (suc k) 0))
      ∙ given_lowered (drop at cubes) is small_behind k (omega (arith, size))

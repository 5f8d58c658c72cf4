-- Each of n cubes in a buffer, as the code judges it: its mark, and the part of the buffer that opens with its record. Assumes nothing.
use mathlib.Core.Path.{◌≡◌, refl, sym, ap, ◌∙◌}
use mathlib.Core.Bool.{Bool, true, false, not, ◌&&◌}
use mathlib.Core.List.{List}
use Prim.Native.Nat.{ℕ, suc, ◌+◌, ◌*◌, ◌<◌, ◌≤◌}
use native.Mathlib.Omega.{arith}
use borrow.Author.Tests.{ne_eqb}
use lib.Dec.{eqb}
use lib.ListN.{length, get_or, drop}
use Rattle.three.specs.Record.{pairs, pair_at, sound}
use Rattle.cubes.specs.Buffer.{cube_bytes, sound_cube, sound_in}
use Rattle.cubes.proofs.StoredCube.{cube_judged}
use Rattle.cubes.proofs.Storing.{cube_place}

-- ---- the mark of a cube, in the most significant bits of its first byte

module _ (latches : ℕ) (bytes : List ℕ) where
  by_mark : (pair_at bytes 0 ≡ 0 → false ≡ sound_cube latches bytes) × ((pair_at bytes 0 ≡ 0 → ⊥) → sound (suc latches) bytes ≡ sound_cube latches bytes)
  by_mark = (
    λ e. go (sound (suc latches) bytes) ∙ ap (λ (p : ℕ). sound (suc latches) bytes && not (eqb p 0)) (sym e) ∙ cube_judged latches bytes,
    λ h. keep (sound (suc latches) bytes) ∙ ap (λ (b : Bool). sound (suc latches) bytes && not b) (sym (ne_eqb (pair_at bytes 0) 0 h)) ∙ cube_judged latches bytes,
  )
    where
      go : (b : Bool) → false ≡ (b && not (eqb 0 0))
      go true = refl
      go false = refl

      keep : (b : Bool) → b ≡ (b && not false)
      keep true = refl
      keep false = refl

  pub mark_missing : get_or bytes 0 0 < 64 → false ≡ sound_cube latches bytes
  unfolding pair_at pairs
  mark_missing h = by_mark.0 (omega arith)

  pub mark_there : 64 ≤ get_or bytes 0 0 → get_or bytes 0 0 < 256 → {r : Bool} → r ≡ sound (suc latches) bytes → r ≡ sound_cube latches bytes
  unfolding pair_at pairs
  mark_there h small e = e ∙ by_mark.1 (λ z. omega arith)

-- ---- cube by cube

module _ (latches n : ℕ) (cubes : List ℕ) (fits : n * cube_bytes latches ≤ length cubes) (len : ℕ) (size : len ≡ cube_bytes latches) (k : ℕ) where
  pub judged_place : k < n → k * len + cube_bytes latches ≤ length cubes
  judged_place h = omega (arith, size, cube_place n len k (length cubes) h (rw size fits))

  pub judged_cube : {r : Bool} → r ≡ sound_cube latches (drop (k * len) cubes) → r ≡ sound_in latches cubes k
  unfolding sound_in
  judged_cube e = e ∙ ap (λ (m : ℕ). sound_cube latches (drop (k * m) cubes)) size

-- Laws of a record with held latches set to X, byte by byte. Assumes nothing.
use mathlib.Core.Path.{◌≡◌, sym, ◌∙◌}
use mathlib.Core.List.{List, ◌++◌}
use Prim.Native.Nat.{ℕ, ◌+◌, ◌*◌, ◌<◌, ◌≤◌}
use native.Mathlib.Nat.{one-mul, mul-le-mul_right}
use native.Mathlib.Omega.{arith}
use lib.ListN.{length, get_or, set, drop}
use lib.Seq.{paste}
use Rattle.three.proofs.Loops.{Stored}
use Rattle.three.proofs.Lists.{length_tabulate, get_or_tabulate}
use Rattle.stored.specs.CubesInCode.{kept_bytes}
use Rattle.stored.proofs.Filled.{filled_next, filled_front}
use Rattle.cubes.specs.HeldInCode.{kept_byte}

module _ (len : ℕ) (held b : List ℕ) where
  pub length_kept : length (kept_bytes len held b) ≡ len
  unfolding kept_bytes
  length_kept = length_tabulate len _

  module _ {d : List ℕ} (long : length d ≡ len) {out : List ℕ} {i : ℕ} (c : Stored d 0 (kept_bytes len held b) len out i) where
    pub kept_next : {k : ℕ} → i < length d → k ≡ kept_byte (get_or b i 0) (get_or held i 0) → Stored d 0 (kept_bytes len held b) len (set out i k) (i + 1)
    unfolding kept_bytes
    kept_next h e = filled_next long (omega (arith, length_kept)) c h (e ∙ sym (get_or_tabulate len _ i 0 (omega (arith, long))))

    pub kept_last : (t : List ℕ) → length d ≤ i → out ++ drop len t ≡ paste t 0 (kept_bytes len held b) len
    kept_last = filled_front long (omega (arith, length_kept)) c

pub behind_one : {n : ℕ} (len : ℕ) → 1 ≤ n → len ≤ n * len
behind_one {n} len h = omega (arith, mul-le-mul_right len h, one-mul len)

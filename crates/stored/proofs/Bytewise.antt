-- A stored record against b, from what a search of the pairs of their bytes found. Assumes nothing.
use mathlib.Core.Path.{◌≡◌, sym, ap, ◌∙◌}
use mathlib.Core.Bool.{Bool, true, false}
use mathlib.Core.List.{List}
use Prim.Native.Nat.{ℕ, ◌+◌, ◌-◌, ◌<◌, ◌≤◌}
use native.Mathlib.Omega.{arith}
use lib.Bits.{bit_and}
use lib.Dec.{eqb}
use lib.ListN.{length, get_or, take, drop}
use Rattle.std.specs.Prelude.{MatchBool}
use Rattle.std.specs.List.{AllWithin, HoldsAt, zip}
use Rattle.std.proofs.lemmas.Slice.Zip.{length-zip, get_or-zip}
use Rattle.three.proofs.Loops.{range_length, range_at}
use Rattle.three.proofs.Lists.{every_all, every_fails}
use Rattle.stored.specs.CubesInCode.{covers_from}

-- no bit of the first is missing in the second
abbrev pub within : ℕ × ℕ → Bool
within p = eqb (bit_and p.0 p.1) p.0

module _ (cubes b : List ℕ) (at len : ℕ) (fits : at + len ≤ length cubes) (room : len ≤ length b) where
  abbrev pairs : List (ℕ × ℕ)
  pairs = zip (take (at + len - at) (drop at cubes)) b

  many : length (take (at + len - at) (drop at cubes)) ≡ len
  many = range_length at len cubes fits

  long : length pairs ≡ len
  long = length-zip _ b ∙ omega (arith, many)

  pair_at : (i : ℕ) → i < len → within (get_or pairs i (0, 0)) ≡ eqb (bit_and (get_or cubes (at + i) 0) (get_or b i 0)) (get_or cubes (at + i) 0)
  pair_at i h =
      ap within (get_or-zip _ b i (0, 0) (omega (arith, many)) (omega arith))
      ∙ ap (λ (x : ℕ). eqb (bit_and x (get_or b i 0)) x) (range_at at len cubes fits i 0 h)

  pub all_within : (r : Bool) → MatchBool r (AllWithin (λ p. within p ≡ true) pairs 0 (length pairs)) ((k : ℕ) × (k < length pairs) × HoldsAt (λ p. within p ≡ false) pairs k)
      → r ≡ covers_from len cubes b at
  unfolding covers_from
  all_within true h = sym (every_all len _ (λ i l. sym (pair_at i l) ∙ h i (0, 0) (omega arith) (omega (arith, long))))
  all_within false (k, l, h) = let below : k < len = omega (arith, long) in sym (every_fails len _ k below (sym (pair_at k below) ∙ h (0, 0)))

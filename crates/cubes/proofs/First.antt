-- The first cube that subsumes b is what the run's search finds. Assumes nothing.
use mathlib.Core.Path.{◌≡◌, refl, sym, ap}
use Prim.Native.Nat.{ℕ, ◌<◌, ◌≤◌}
use native.Mathlib.Omega.{arith}
use Rattle.three.specs.Lists.{first}
use Rattle.three.specs.Cube.{Cube, subsumes}
use Rattle.three.proofs.First.{first_at, first_none}
use Rattle.cubes.specs.Run.{Found, at, nowhere, search}
use Rattle.cubes.proofs.Steps.{Searched, searched, found, none_before, none_at_all}

pub search_first : (cubes : ℕ → Cube) (b : Cube) (n : ℕ) → (first n (λ k. subsumes (cubes k) b) < n → search cubes n b ≡ at (first n (λ k. subsumes (cubes k) b)))
    × (n ≤ first n (λ k. subsumes (cubes k) b) → search cubes n b ≡ nowhere)
search_first cubes b n = go (search cubes n b) (searched cubes b n)
  where
    j : ℕ
    j = first n (λ k. subsumes (cubes k) b)

    go : (f : Found) → Searched cubes b n f → (j < n → f ≡ at j) × (n ≤ j → f ≡ nowhere)
    go (at i) s =
        let h = found s in
        let e : j ≡ i = first_at n (λ k. subsumes (cubes k) b) i h.0 h.1 (none_before s) in
        (λ l. ap at (sym e), λ l. absurd (omega arith))
    go nowhere s = let e : j ≡ n = first_none n (λ k. subsumes (cubes k) b) (none_at_all s) in (λ l. absurd (omega arith), λ l. refl)

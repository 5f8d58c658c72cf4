-- The settled record (specification, 5.7) is what calls of `merge` over the records of the loop's cubes leave, in any order. Assumes nothing.
use mathlib.Core.Path.{◌≡◌}
use mathlib.Core.Bool.{true}
use mathlib.Core.List.{List}
use Prim.Native.Nat.{ℕ, ◌-◌, ◌<◌, ◌≤◌}
use native.Mathlib.Omega.{arith}
use lib.ListN.{length}
use Rattle.three.specs.Cube.{Cube, subsumes}
use Rattle.three.specs.Record.{unpack}
use Rattle.three.proofs.Subsuming.{subsumes_both}
use Rattle.circuit.specs.Circuit.{Circuit}
use Rattle.cubes.specs.Run.{settled}
use Rattle.cubes.proofs.Wider.{merge_from_covers, merge_from_narrowest}
use Rattle.merging.proofs.Week.{Week, Among, week_covers, week_narrowest}

-- cubes j to n − 1, each under the number `number x` of its record x, and `bytes k` the record of cube k
module _ (c : Circuit) (cubes : ℕ → Cube) (n j f : ℕ) (loops : j < n) (sized : (k : ℕ) → length (cubes k) ≡ length c.latches)
    (xs : List (List ℕ)) (number : List ℕ → ℕ) (bytes : ℕ → List ℕ)
    (of : (x : List ℕ) → Among x xs → (j ≤ number x) × (number x < n) × (unpack f x ≡ cubes (number x)))
    (all : (k : ℕ) → j ≤ k → k < n → Among (bytes k) xs × (unpack f (bytes k) ≡ cubes k)) where
  settled_covers : (x : List ℕ) → Among x xs → subsumes (settled c cubes n j) (unpack f x) ≡ true
  unfolding settled
  settled_covers x p = let is = of x p in rw is.2 (merge_from_covers _ cubes _ sized j (n - j) (number x) is.0 (omega (arith, is.1)))

  pub settled_merged : (m : List ℕ) → Week f xs m → unpack f m ≡ settled c cubes n j
  unfolding settled
  settled_merged m w = subsumes_both _ _
      (merge_from_narrowest _ cubes _ sized j (n - j) (omega arith) (unpack f m)
      (λ k from below. let is = all k from (omega arith) in rw is.1 at (week_covers f xs m w (bytes k) is.0)))
      (week_narrowest f xs m w _ settled_covers)

-- The test of given cubes says that there is a cover: the first cube over the start, and for each cube the first over its next state. Where there is
-- any cover the test passes, so a run's own cubes do. Assumes nothing.
use mathlib.Core.Path.{◌≡◌, refl, sym, ap, ◌∙◌}
use mathlib.Core.Bool.{true, false, not, false≢true, true≢false}
use Prim.Native.Nat.{ℕ, ◌<◌, ◌≤◌}
use native.Mathlib.Omega.{arith}
use Rattle.three.specs.Lists.{every}
use Rattle.three.specs.Cube.{Cube, subsumes}
use borrow.Author.Tests.{not-false}
use Rattle.three.proofs.First.{first_at, first_none, first_nowhere}
use Rattle.three.proofs.Lists.{by_test, every_at, every_all}
use Rattle.circuit.specs.Circuit.{Circuit}
use Rattle.circuit.specs.RulesInCode.{Passed}
use Rattle.cubes.specs.Run.{next_cube, blocked, start, cube_at, Found, at, nowhere, search, stops, run}
use Rattle.cubes.specs.Given.{covered, next_covered, cover_tests, first_uncovered}
use Rattle.cubes.proofs.Steps.{Searched, searched, found, none_at_all}
use Rattle.cubes.proofs.Cover.{Cover}
use Rattle.cubes.proofs.Promise.{run_chain}

-- the number of what a search found
pub place_of : Found → ℕ
place_of (at k) = k
place_of nowhere = 0

module _ (c : Circuit) (cubes : ℕ → Cube) (n : ℕ) where
  covered_found : (b : Cube) → covered c cubes n b ≡ true → blocked c b ≡ false → (place_of (search cubes n b) < n) × (subsumes (cubes (place_of (search cubes n b))) b ≡ true)
  unfolding covered place_of
  covered_found b e free = go (search cubes n b) (searched cubes b n) e
    where
      go : (f : Found) → Searched cubes b n f → elim f [ at k ↦ true | nowhere ↦ blocked c b ] ≡ true → (place_of f < n) × (subsumes (cubes (place_of f)) b ≡ true)
      go (at k) s e = found s
      go nowhere s e = absurd (false≢true (sym free ∙ e))

  -- with no cube it is so exactly where a constraint is 0
  pub covered_none : (b : Cube) → n ≡ 0 → covered c cubes n b ≡ blocked c b
  unfolding covered search
  covered_none b none = rw none

  found_covered : (b : Cube) → (blocked c b ≡ false → (k : ℕ) × (k < n) × (subsumes (cubes k) b ≡ true)) → covered c cubes n b ≡ true
  unfolding covered
  found_covered b over = go (search cubes n b) (searched cubes b n)
    where
      go : (f : Found) → Searched cubes b n f → elim f [ at k ↦ true | nowhere ↦ blocked c b ] ≡ true
      go (at j) s = refl
      go nowhere s = by_test (blocked c b) (λ e. e) (λ free. let there = over free in absurd (true≢false (sym there.2 ∙ none_at_all s there.0 there.1)))

  pub test_cover : Passed (cover_tests c cubes n) → Cover c cubes n (place_of (search cubes n (start c))) (λ k. place_of (search cubes n (next_cube c (cubes k))))
  unfolding cover_tests next_covered
  test_cover p = record {
    starts = covered_found (start c) p.0;
    follows = λ k h. covered_found (next_cube c (cubes k)) (every_at n (next_covered c cubes n) p.1.0 k h);
  }

  pub cover_test : {origin : ℕ} {follow : ℕ → ℕ} → Cover c cubes n origin follow → Passed (cover_tests c cubes n)
  unfolding cover_tests next_covered
  cover_test {origin} {follow} cover =
      (found_covered (start c) (λ free. let there = cover.starts free in (origin, there.0, there.1)), (every_all n (next_covered c cubes n) (λ k h. found_covered (next_cube c (cubes k)) (λ free. let there = cover.follows k h free in (follow k, there.0, there.1))), tt))

-- ---- the number that 18 names

module _ (c : Circuit) (cubes : ℕ → Cube) (n : ℕ) where
  pub uncovered_at : (k : ℕ) → k < n → ((m : ℕ) → m < k → next_covered c cubes n m ≡ true) → next_covered c cubes n k ≡ false → k ≡ first_uncovered c cubes n
  unfolding first_uncovered
  uncovered_at k h before e = sym (first_at n _ k h (ap not e) (λ m l. ap not (before m l)))

  pub uncovered_none : ((m : ℕ) → m < n → next_covered c cubes n m ≡ true) → n ≡ first_uncovered c cubes n
  unfolding first_uncovered
  uncovered_none all = sym (first_none n _ (λ m l. ap not (all m l)))

  -- it is a number below n exactly where one of them is not covered
  pub uncovered_fails : first_uncovered c cubes n < n → every n (next_covered c cubes n) ≡ false
  uncovered_fails h = by_test (every n (next_covered c cubes n)) (λ t. absurd (omega (arith, uncovered_none (every_at n (next_covered c cubes n) t)))) (λ f. f)

  pub uncovered_passes : n ≤ first_uncovered c cubes n → every n (next_covered c cubes n) ≡ true
  unfolding first_uncovered
  uncovered_passes h = every_all n _ (λ m l. not-false _ (first_nowhere n (λ k. not (next_covered c cubes n k)) h m l))

-- ---- a run's own cubes

-- the cubes of a run that stops pass
pub run_passes : (c : Circuit) (w room n j : ℕ) → run c w room ≡ stops n j → Passed (cover_tests c (cube_at c w) n)
run_passes c w room n j stopped = cover_test c (cube_at c w) n (run_chain c w room n j stopped).cover

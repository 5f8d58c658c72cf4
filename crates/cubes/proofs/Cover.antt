-- Cubes that no legal execution leaves, for any map that says which cube follows which. A tick is sound, so the state goes from each cube into the one
-- that follows; where a constraint is 0 none does, and no legal execution goes there. Assumes nothing.
use mathlib.Core.Path.{◌≡◌}
use mathlib.Core.Bool.{Bool, true, false}
use Prim.Native.Nat.{ℕ, zero, suc, ◌<◌}
use native.Mathlib.Omega.{arith}
use lib.ListN.{get_or}
use Rattle.three.specs.Value.{unknown, known}
use Rattle.three.specs.Cube.{Cube, subsumes, ◌∋◌}
use Rattle.circuit.specs.Circuit.{Circuit}
use Rattle.cubes.specs.Run.{next_cube, blocked, start, verdict}
use Rattle.cubes.specs.Execution.{Execution, state_after, watched_after, Lawful}
use Rattle.cubes.proofs.Allowed.{allowed_starts}
use Rattle.cubes.proofs.Wider.{subsumes_widens, merge_from_widens}
use Rattle.cubes.proofs.Reading.{next_within, watched_within, watched_sized, known_at}
use Rattle.cubes.proofs.Blocking.{lawful_before, lawful_free}

-- n cubes in any order: cube number `origin` subsumes the start, and cube number `follow k` the next state of cube k, save where a constraint is 0 in these
pub record Cover (c : Circuit) (cubes : ℕ → Cube) (n origin : ℕ) (follow : ℕ → ℕ) : Type 0 where
  pub starts : blocked c (start c) ≡ false → (origin < n) × (subsumes (cubes origin) (start c) ≡ true)
  pub follows : (k : ℕ) → k < n → blocked c (next_cube c (cubes k)) ≡ false → (follow k < n) × (subsumes (cubes (follow k)) (next_cube c (cubes k)) ≡ true)

-- the number of the cube for tick t: the origin, followed t times
unfoldable pub visited : ℕ → (ℕ → ℕ) → ℕ → ℕ
visited origin follow zero = origin
visited origin follow (suc t) = follow (visited origin follow t)

module _ {c : Circuit} {cubes : ℕ → Cube} {n origin : ℕ} {follow : ℕ → ℕ} (cover : Cover c cubes n origin follow) (e : Execution c) where
  pub visited_covers : (t : ℕ) → Lawful e t → (visited origin follow t < n) × (cubes (visited origin follow t) ∋ state_after e t)
  unfolding state_after visited
  visited_covers zero legal =
      let from : start c ∋ e.first = unfold start in allowed_starts e.allowed in
      let there = cover.starts (lawful_free e 0 legal from) in
      (there.0, subsumes_widens _ there.1 from)
  visited_covers (suc t) legal =
      let before = visited_covers t (lawful_before e t legal) in
      let reached = next_within e t before.1 in
      let there = cover.follows _ before.0 (lawful_free e (suc t) legal reached) in
      (there.0, subsumes_widens _ there.1 reached)

  verdict_covers : (t : ℕ) → Lawful e t → verdict c cubes n ∋ watched_after e t
  unfolding verdict
  verdict_covers t legal =
      let there = visited_covers t legal in
      merge_from_widens _ _ _ (λ k. watched_sized c (cubes k)) 0 n (visited origin follow t) (omega arith) (omega (arith, there.0)) (watched_within e t there.1)

  -- what has a known verdict has that value at every legal tick
  pub verdict_known : (i : ℕ) (v : Bool) → get_or (verdict c cubes n) i unknown ≡ known v → (t : ℕ) → Lawful e t → get_or (watched_after e t) i false ≡ v
  verdict_known i v is t legal = known_at (verdict_covers t legal) i v is

-- a cover is one by its n cubes alone
pub cover_same : (c : Circuit) (f f' : ℕ → Cube) (n : ℕ) → ((k : ℕ) → k < n → f k ≡ f' k) → {origin : ℕ} {follow : ℕ → ℕ} → Cover c f n origin follow → Cover c f' n origin follow
cover_same c f f' n same {origin} {follow} cover = record {
  starts = λ free. let h = cover.starts free in (h.0, rw (← same origin h.0) h.1);
  follows = λ k l free. let h = cover.follows k l (rw (same k l) free) in (h.0, rw (← same (follow k) h.0, ← same k l) h.1);
}

-- With w at least 1 a run of L latches closes or ends within w + L cubes, and with no latch at once: from cube w − 1 on each cube contains the
-- one before it, and where the run goes on it is not that one, so it knows a latch less. Assumes nothing.
use mathlib.Core.Path.{◌≡◌, refl, sym, ◌∙◌}
use mathlib.Core.Bool.{true, true≢false}
use mathlib.Core.Logic.{◌⊎◌, inl, inr}
use Prim.Native.Nat.{ℕ, zero, suc, ◌+◌, ◌*◌, ◌≤◌, ◌<◌}
use native.Mathlib.Nat.{mul-suc, suc-mul}
use native.Mathlib.Decide.{dec_lt}
use native.Mathlib.Omega.{arith}
use lib.ListN.{length}
use Rattle.three.specs.Lists.{every}
use Rattle.three.specs.Cube.{subsumes, known_fields}
use Rattle.three.proofs.Counting.{known_fields_le}
use Rattle.three.proofs.Merge.{subsumes_every}
use Rattle.three.proofs.Subsuming.{each_subsumes, known_fewer}
use Rattle.circuit.specs.Circuit.{Circuit}
use Rattle.cubes.specs.Run.{reached, store, stage, cube_at, nowhere, Ending, stops, full, run}
use Rattle.cubes.specs.Promise.{most_cubes}
use Rattle.cubes.proofs.Steps.{last_fails, Looked, nothing_found, Ran, dead, begun, stays, closes, goes_on, ran}
use Rattle.cubes.proofs.Wider.{reached_sized, cube_sized}
use Rattle.cubes.proofs.Growing.{hold_contains, Grows, grows}

module _ (c : Circuit) (w : ℕ) where
  -- how many latches are known in cube number k
  known_in : ℕ → ℕ
  known_in k = known_fields (cube_at c w k)

  few_known : (k : ℕ) → known_in k ≤ length c.latches
  unfolding known_in
  few_known k = omega (arith, known_fields_le (cube_at c w k), cube_sized c w k)

  -- after a cube that stops nothing
  module _ (k : ℕ) (open_yet : Looked c w k nowhere) where
    falls : Grows c w k → known_in (suc k) < known_in k
    unfolding known_in cube_at stage store
    falls h = go (known_fewer h)
      where
        go : (cube_at c w (suc k) ≡ cube_at c w k) ⊎ (known_in (suc k) < known_in k) → known_in (suc k) < known_in k
        go (inr fewer) = fewer
        go (inl same) =
            let inside : subsumes (cube_at c w (suc k)) (reached c (stage c w k)) ≡ true = each_subsumes (hold_contains _ _) in
            absurd (true≢false (sym (rw same at inside) ∙ last_fails (nothing_found c w open_yet)))

    some_latch : length c.latches ≡ 0 → ⊥
    unfolding every
    some_latch none =
        let bare = cube_sized c w k ∙ none in
        let inside = subsumes_every (cube_at c w k) (reached c (stage c w k)) (bare ∙ sym (reached_sized c (stage c w k) ∙ none)) in
        true≢false (sym (rw bare at inside) ∙ last_fails (nothing_found c w open_yet))

  module _ (pos : 1 ≤ w) where
    -- in a run not stopped yet each cube from number w on knows a latch less
    still_known : {k : ℕ} → Ran c w k full → known_in k + k < w + length c.latches
    still_known (begun free) = omega (arith, few_known 0)
    still_known (goes_on {k = k} past l) = go (dec_lt (suc k) w) (still_known past)
      where
        go : Dec (suc k < w) → known_in k + k < w + length c.latches → known_in (suc k) + suc k < w + length c.latches
        go (yes early) before = omega (arith, few_known (suc k))
        go (no late) before = omega (arith, falls k l (grows c w k pos (omega arith)))

    still_open : {k : ℕ} → Ran c w k full → k < most_cubes w (length c.latches)
    unfolding most_cubes
    still_open = go (length c.latches) refl
      where
        go : (latches : ℕ) → length c.latches ≡ latches → {k : ℕ} → Ran c w k full → k < most_cubes w latches
        go zero e (begun free) = omega arith
        go zero e (goes_on {k = k} past l) = absurd (some_latch k l e)
        go (suc latches) e r = omega (arith, still_known r)

    few_cubes : {room n j : ℕ} → Ran c w room (stops n j) → n ≤ most_cubes w (length c.latches)
    few_cubes (dead e) = omega arith
    few_cubes (stays past) = few_cubes past
    few_cubes (closes past l) = still_open past

-- a run stops, with at most so many cubes
pub record ClosesWithin (bound : ℕ) (outcome : Ending) : Type 0 where
  pub n : ℕ
  pub j : ℕ
  pub is_closed : outcome ≡ stops n j
  pub few : n ≤ bound

pub run_closes : (c : Circuit) (w room : ℕ) → 1 ≤ w → most_cubes w (length c.latches) ≤ room → ClosesWithin (most_cubes w (length c.latches)) (run c w room)
run_closes c w room pos enough = go (run c w room) (ran c w room)
  where
    go : (o : Ending) → Ran c w room o → ClosesWithin (most_cubes w (length c.latches)) o
    go (stops n j) r = record { n = n; j = j; is_closed = refl; few = few_cubes c w pos r }
    go full r = absurd (omega (arith, still_open c w pos r))

-- the specification's bound is never less
pub most_within : (w latches : ℕ) → 1 ≤ w → most_cubes w latches ≤ w * latches + 1
unfolding most_cubes
most_within zero latches pos = absurd (omega arith)
most_within (suc w) zero pos = omega arith
most_within (suc w) (suc latches) pos = omega (arith, suc-mul w (suc latches), mul-suc w latches)

-- What a run that stops, closed or ended, promises of every legal execution, stated over the run's own cubes, which are a chain. Assumes nothing.
use mathlib.Core.Path.{◌≡◌, sym, ◌∙◌}
use mathlib.Core.Bool.{Bool, true, false, true≢false}
use mathlib.Core.List.{[]}
use Prim.Native.Nat.{ℕ, suc, ◌+◌, ◌-◌, ◌%◌, ◌≤◌, ◌<◌}
use native.Mathlib.Decide.{dec_lt}
use native.Mathlib.Omega.{arith}
use lib.ListN.{get_or}
use Rattle.three.specs.Value.{unknown, known}
use Rattle.three.specs.Cube.{subsumes, ◌∋◌}
use Rattle.circuit.specs.Circuit.{Circuit}
use Rattle.cubes.specs.Run.{next_cube, blocked, start, reached, stage, cube_at, at, stops, run, verdict, settled}
use Rattle.cubes.specs.Given.{onward}
use Rattle.cubes.specs.Execution.{Execution, state_after, watched_after, Lawful}
use Rattle.cubes.proofs.Steps.{found, after, Looked, ends, looks, Ran, dead, stays, closes, ran}
use Rattle.cubes.proofs.Wider.{cube_sized}
use Rattle.cubes.proofs.Growing.{hold_contains, next_reached, next_stored}
use Rattle.three.proofs.Merge.{subsumes_self}
use Rattle.three.proofs.Subsuming.{subsumes_trans}
use Rattle.cubes.proofs.Blocking.{blocked_narrow}
use Rattle.cubes.proofs.Places.{onward_inner, onward_last}
use Rattle.cubes.proofs.Cover.{verdict_known}
use Rattle.cubes.proofs.Following.{Chain, chain_closed, chain_ended, chain_early, chain_late, latch_known}

-- ---- a run that stops is a chain

module _ (c : Circuit) (w : ℕ) where
  -- a constraint that is 0 in b, held latches and all, is 0 in the next state
  narrow : (k : ℕ) → blocked c (after c w k) ≡ true → blocked c (next_cube c (cube_at c w k)) ≡ true
  unfolding reached cube_at
  narrow k e = blocked_narrow c (hold_contains (stage c w k).held _) e

  back_within : {k j : ℕ} → Looked c w k (at j) → j ≤ suc k
  back_within (ends e) = omega arith
  back_within (looks free s) = omega (arith, (found s).0)

  back_over : {k j : ℕ} → Looked c w k (at j) → blocked c (next_cube c (cube_at c w k)) ≡ false → (j < suc k) × (subsumes (cube_at c w j) (next_cube c (cube_at c w k)) ≡ true)
  back_over {k} (ends e) free = absurd (true≢false (sym (narrow k e) ∙ free))
  back_over {k} (looks none s) free = let there = found s in (there.0, subsumes_trans _ _ _ there.1 (next_reached c w k))

  chain_of : {room n j : ℕ} → Ran c w room (stops n j) → Chain c (cube_at c w) n j
  unfolding cube_at stage
  chain_of (dead e) = record {
    sized = cube_sized c w;
    within = omega arith;
    cover = record { starts = λ free. absurd (true≢false (sym e ∙ free)); follows = λ k h. absurd (omega arith) };
  }
  chain_of (stays past) = chain_of past
  chain_of (closes {k = k} {j = j} past l) = record {
    sized = cube_sized c w;
    within = back_within l;
    cover = record { starts = λ free. (omega arith, subsumes_self (start c)); follows = λ i h. go i (dec_lt (suc i) (suc k)) h };
  }
    where
      go : (i : ℕ) → Dec (suc i < suc k) → i < suc k → blocked c (next_cube c (cube_at c w i)) ≡ false
          → (onward (suc k) j i < suc k) × (subsumes (cube_at c w (onward (suc k) j i)) (next_cube c (cube_at c w i)) ≡ true)
      go i (yes inner) h free = rw (onward_inner (suc k) j i inner) (inner, next_stored c w i)
      go i (no edge) h free = let same : i ≡ k = omega arith in rw (onward_last (suc k) j i (omega arith), same) (back_over l (rw same at free))

-- ---- the promises, for any execution

module _ (c : Circuit) (w room n j : ℕ) (stopped : run c w room ≡ stops n j) where
  pub run_chain : Chain c (cube_at c w) n j
  run_chain = chain_of c w (rw stopped at (ran c w room))

  -- without constraints no run ends
  pub run_closed : c.constraints ≡ [] → j < n
  run_closed none = chain_closed run_chain none

  module _ (e : Execution c) where
    -- the state after t ticks lies in cube t if t < n, else in cube j + ((t − j) mod (n − j))
    pub covered_early : (t : ℕ) → Lawful e t → t < n → cube_at c w t ∋ state_after e t
    covered_early = chain_early run_chain e

    pub covered_late : (t : ℕ) → Lawful e t → n ≤ t → cube_at c w (j + (t - j) % (n - j)) ∋ state_after e t
    covered_late = chain_late run_chain e

    -- none is legal at tick n of a run that ended
    pub run_ended : j ≡ n → Lawful e n → ⊥
    run_ended = chain_ended run_chain e

    -- a lamp or bad state judged never (false) or always (true) is so at every legal tick
    pub watched_judged : (i : ℕ) (v : Bool) → get_or (verdict c (cube_at c w) n) i unknown ≡ known v → (t : ℕ) → Lawful e t → get_or (watched_after e t) i false ≡ v
    watched_judged = verdict_known run_chain.cover e

    -- a settled latch has its value at every legal tick from j on
    pub latch_settled : (i : ℕ) (v : Bool) → get_or (settled c (cube_at c w) n j) i unknown ≡ known v → (t : ℕ) → Lawful e t → j ≤ t → get_or (state_after e t) i false ≡ v
    latch_settled = latch_known run_chain e

-- Chains, closed and ended, are covers: after cube k comes cube k + 1, after the last cube j. A closed chain goes round; where j = n nothing comes after the
-- last, so no execution is legal at tick n. Assumes nothing.
use mathlib.Core.Path.{◌≡◌, refl, sym, ap, ◌∙◌}
use mathlib.Core.Bool.{Bool, false}
use mathlib.Core.List.{[]}
use Prim.Native.Nat.{ℕ, zero, suc, ◌+◌, ◌-◌, ◌%◌, ◌≤◌, ◌<◌}
use native.Mathlib.Decide.{dec_lt}
use native.Mathlib.Omega.{arith}
use lib.ListN.{length, get_or}
use Rattle.three.specs.Value.{unknown, known}
use Rattle.three.specs.Cube.{Cube, ◌∋◌}
use Rattle.circuit.specs.Circuit.{Circuit}
use Rattle.cubes.specs.Run.{start, settled}
use Rattle.cubes.specs.OutcomesInCode.{place}
use Rattle.cubes.specs.Given.{onward}
use Rattle.cubes.specs.Execution.{Execution, state_after, Lawful}
use Rattle.cubes.proofs.Wider.{merge_from_widens}
use Rattle.cubes.proofs.Reading.{known_at}
use Rattle.cubes.proofs.Places.{place_early, place_late, place_below, place_next, onward_inner, onward_last, onward_place}
use Rattle.cubes.proofs.Blocking.{never_blocked}
use Rattle.cubes.proofs.Cover.{Cover, visited, visited_covers}

-- n cubes one after the other, and then from cube j on; with j = n they break off
pub record Chain (c : Circuit) (cubes : ℕ → Cube) (n j : ℕ) : Type 0 where
  pub sized : (k : ℕ) → length (cubes k) ≡ length c.latches
  pub within : j ≤ n
  pub cover : Cover c cubes n 0 (onward n j)

-- ---- the cube for a tick

visited_early : (n j t : ℕ) → t < n → visited 0 (onward n j) t ≡ t
unfolding visited
visited_early n j zero h = refl
visited_early n j (suc t) h = ap (onward n j) (visited_early n j t (omega arith)) ∙ onward_inner n j t h

visited_place : (n j t : ℕ) → j < n → visited 0 (onward n j) t ≡ place n j t
unfolding visited
visited_place n j zero below = sym (place_early n j 0 below (omega arith))
visited_place n j (suc t) below = ap (onward n j) (visited_place n j t below) ∙ onward_place n j (place n j t) below (place_below n j t below) ∙ place_next n j t below

visited_end : (n : ℕ) → visited 0 (onward n n) n ≡ n
unfolding visited
visited_end zero = refl
visited_end (suc m) = ap (onward (suc m) (suc m)) (visited_early (suc m) (suc m) m (omega arith)) ∙ onward_last (suc m) (suc m) m (omega arith)

-- ---- what it says of one execution

module _ {c : Circuit} {cubes : ℕ → Cube} {n j : ℕ} (chain : Chain c cubes n j) where
  -- without constraints it is closed
  pub chain_closed : c.constraints ≡ [] → j < n
  chain_closed none = go n refl (chain.cover.starts (never_blocked c none (start c))).0
    where
      go : (m : ℕ) → n ≡ m → 0 < m → j < n
      go zero e h = absurd (omega arith)
      go (suc m) e h = rw (onward_last n j m (omega arith)) at (chain.cover.follows m (omega arith) (never_blocked c none _)).0

  module _ (e : Execution c) where
    pub chain_ended : j ≡ n → Lawful e n → ⊥
    chain_ended end legal =
        let there : visited 0 (onward n n) n < n = rw end at (visited_covers chain.cover e n legal).0 in
        omega (arith, visited_end n)

    -- an execution that is legal so late goes round
    goes_round : (t : ℕ) → Lawful e t → n ≤ t → j < n
    goes_round t legal late = go (dec_lt j n)
      where
        go : Dec (j < n) → j < n
        go (yes below) = below
        go (no beyond) = absurd (chain_ended (omega (arith, chain.within)) (λ u h. legal u (omega arith)))

    place_covers : j < n → (t : ℕ) → Lawful e t → cubes (place n j t) ∋ state_after e t
    place_covers below t legal = rw (visited_place n j t below) at (visited_covers chain.cover e t legal).1

    pub chain_early : (t : ℕ) → Lawful e t → t < n → cubes t ∋ state_after e t
    chain_early t legal early = rw (visited_early n j t early) at (visited_covers chain.cover e t legal).1

    pub chain_late : (t : ℕ) → Lawful e t → n ≤ t → cubes (j + (t - j) % (n - j)) ∋ state_after e t
    chain_late t legal late = rw (place_late n j t (omega (arith, chain.within))) at (place_covers (goes_round t legal late) t legal)

    -- some cube of the loop covers every legal tick from j on
    loop_below : (t : ℕ) → Lawful e t → j ≤ t → j < n
    loop_below t legal late = go (dec_lt t n)
      where
        go : Dec (t < n) → j < n
        go (yes early) = omega arith
        go (no beyond) = goes_round t legal (omega arith)

    settled_covers : (t : ℕ) → Lawful e t → j ≤ t → settled c cubes n j ∋ state_after e t
    unfolding settled
    settled_covers t legal late =
        let below = loop_below t legal late in
        merge_from_widens _ cubes _ chain.sized j (n - j) (place n j t) (omega (arith, place_late n j t late)) (omega (arith, place_below n j t below)) (place_covers below t legal)

    -- a settled latch has its value at every legal tick from j on
    pub latch_known : (i : ℕ) (v : Bool) → get_or (settled c cubes n j) i unknown ≡ known v → (t : ℕ) → Lawful e t → j ≤ t → get_or (state_after e t) i false ≡ v
    latch_known i v is t legal late = known_at (settled_covers t legal late) i v is

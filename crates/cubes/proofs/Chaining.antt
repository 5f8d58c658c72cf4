-- What the contract of the chain says: where it answers 0 a run that stopped, closed or ended, its cubes in the buffer; the promise of its count. Assumes nothing.
use mathlib.Core.Path.{◌≡◌, refl, sym, ap, ap₂, ◌∙◌}
use mathlib.Core.Bool.{true}
use mathlib.Core.List.{List}
use Prim.Native.Nat.{ℕ, zero, suc, ◌+◌, ◌*◌, ◌<◌, ◌≤◌}
use native.Mathlib.Omega.{arith}
use lib.ListN.{length}
use Rattle.three.specs.Lists.{every, over}
use Rattle.three.proofs.Lists.{every_all}
use Rattle.circuit.specs.Refusal.{left_by}
use Rattle.circuit.proofs.Refusals.{accepted_new}
use Rattle.cubes.specs.declared.ChainAnswer.{ChainAnswer}
use Rattle.cubes.specs.Run.{cube_at, Ending, stops, full}
use Rattle.cubes.specs.Buffer.{cube_bytes, cube_in, sound_in, pack_cubes, marked}
use Rattle.cubes.specs.Chain.{room_in, stored_cubes, outcome_number, ChainGiven, refused_by, circuit_in, outcome_in, cubes_in, back_in, Chained}
use Rattle.cubes.specs.OutcomesInCode.{has_stopped}
use Rattle.cubes.specs.Promise.{most_cubes, Closing}
use Rattle.cubes.proofs.Storing.{records_sized, stored_sound}
use Rattle.cubes.proofs.Given.{cubes_fit}
use Rattle.cubes.proofs.Merging.{length_over}
use Rattle.cubes.proofs.Blocking.{none_counted}
use Rattle.cubes.proofs.Closes.{run_closes, most_within}
use Rattle.cubes.proofs.Following.{Chain, chain_closed, chain_ended}
use Rattle.cubes.proofs.Promise.{run_chain}
use Rattle.cubes.proofs.Buffered.{cube_in_lem, cubes_sized, latches_counted, stopped_is, stopped_within}

-- ---- number 0 says: not refused, and stopped

zero_says : (k : ℕ) (o : Ending) → 0 ≡ left_by k (outcome_number o) k → (k ≡ 0) × (has_stopped o ≡ true)
unfolding left_by outcome_number has_stopped
zero_says zero (stops n j) e = (refl, refl)
zero_says zero full e = absurd (omega arith)
zero_says (suc k) o e = absurd (omega arith)

closed_says : (room : ℕ) (o : Ending) {n j : ℕ} → o ≡ stops n j → (outcome_number o ≡ 0) × (stored_cubes room o ≡ n)
unfolding outcome_number stored_cubes
closed_says room o e = (rw e, rw e)

-- and any other number, where nothing is refused before: no room
number_says : (o : Ending) {k : ℕ} → k ≡ outcome_number o → (k ≡ 0 → ⊥) → (k ≡ 15) × (o ≡ full)
unfolding outcome_number
number_says (stops n j) e h = absurd (h e)
number_says full e h = (e, refl)

module _ (g : ChainGiven) (r : ChainAnswer) (cubes : List ℕ) (chained : Chained g r cubes) where
  -- ---- stopped

  module _ (done : r.number ≡ 0) where
    pub says : (refused_by g ≡ 0) × (has_stopped (outcome_in g) ≡ true)
    says = zero_says (refused_by g) (outcome_in g) (sym done ∙ chained.answers)

    taken : {A : Type 0} (new old : A) → left_by (refused_by g) new old ≡ new
    taken new old = sym (accepted_new (refused_by g) new old says.0)

    pub n_is : r.cubes ≡ cubes_in g
    n_is = chained.counts ∙ taken _ _

    pub j_is : r.back ≡ back_in g
    j_is = chained.goes_back ∙ taken _ _

    pub outcome_is : outcome_in g ≡ stops r.cubes r.back
    unfolding cubes_in back_in
    outcome_is = stopped_is (room_in g.counts g.cubes) (outcome_in g) says.1 ∙ ap₂ stops (sym n_is) (sym j_is)

    chain : Chain (circuit_in g) (cube_at (circuit_in g) g.w) r.cubes r.back
    unfolding outcome_in
    chain = run_chain (circuit_in g) g.w (room_in g.counts g.cubes) _ _ outcome_is

    filled : cubes ≡ over (pack_cubes (marked g.w) (cube_at (circuit_in g) g.w) r.cubes) g.cubes
    filled = chained.fills_cubes ∙ taken _ _ ∙ ap (λ (n : ℕ). over (pack_cubes (marked g.w) (cube_at (circuit_in g) g.w) n) g.cubes) (sym n_is)

    -- what stands in the buffer, cube by cube
    pub cube_is : (k : ℕ) → k < r.cubes → cube_at (circuit_in g) g.w k ≡ cube_in g.counts.latches cubes k
    unfolding circuit_in
    cube_is k h = sym (cube_in_lem g.counts g.table g.w g.cubes r.cubes cubes filled k h)

    few : r.cubes ≤ room_in g.counts g.cubes
    unfolding cubes_in outcome_in
    few = rw n_is (stopped_within (circuit_in g) g.w (room_in g.counts g.cubes) says.1)

    fit : r.cubes * cube_bytes g.counts.latches ≤ length g.cubes
    fit = cubes_fit g.counts g.cubes r.cubes few

    sized : (k : ℕ) → length (cube_at (circuit_in g) g.w k) ≡ g.counts.latches
    unfolding circuit_in
    sized = cubes_sized g.counts g.table g.w

    long : length cubes ≡ length g.cubes
    long = ap length filled ∙ length_over _ g.cubes (rw (records_sized g.counts.latches (marked g.w) (cube_at (circuit_in g) g.w) sized r.cubes) fit)

    -- they fit, and 14 refuses none of them
    pub own_few : r.cubes ≤ room_in g.counts cubes
    unfolding room_in
    own_few = rw long few

    pub own_sound : every r.cubes (sound_in g.counts.latches cubes) ≡ true
    unfolding sound_in
    own_sound = every_all r.cubes _ (λ k h. rw filled (stored_sound g.counts.latches (marked g.w) (cube_at (circuit_in g) g.w) sized g.cubes r.cubes k h fit).good)

  -- ---- not stopped

  pub only_full : refused_by g ≡ 0 → (r.number ≡ 0 → ⊥) → (r.number ≡ 15) × (outcome_in g ≡ full)
  only_full ok h = number_says (outcome_in g) (chained.answers ∙ sym (accepted_new (refused_by g) _ _ ok)) h

  -- ---- the promise

  latches_sized : length (circuit_in g).latches ≡ g.counts.latches
  unfolding circuit_in
  latches_sized = latches_counted g.counts g.table

  closes_sharply : refused_by g ≡ 0 → 1 ≤ g.w → most_cubes g.w g.counts.latches ≤ room_in g.counts g.cubes
      → (r.number ≡ 0) × (r.cubes ≤ most_cubes g.w g.counts.latches)
  unfolding outcome_in cubes_in
  closes_sharply ok pos enough =
      let within = run_closes (circuit_in g) g.w (room_in g.counts g.cubes) pos (rw latches_sized enough) in
      let says = closed_says (room_in g.counts g.cubes) (outcome_in g) within.is_closed in
      let number : r.number ≡ 0 = chained.answers ∙ sym (accepted_new (refused_by g) _ _ ok) ∙ says.0 in
      let count : r.cubes ≡ within.n = chained.counts ∙ sym (accepted_new (refused_by g) _ _ ok) ∙ says.1 in
      (number, omega (arith, count, within.few, ap (most_cubes g.w) latches_sized))

  closes_within : refused_by g ≡ 0 → 1 ≤ g.w → g.w * g.counts.latches + 1 ≤ room_in g.counts g.cubes → (r.number ≡ 0) × (r.cubes ≤ g.w * g.counts.latches + 1)
  closes_within ok pos enough =
      let less = most_within g.w g.counts.latches pos in
      let sharply = closes_sharply ok pos (omega (arith, less)) in
      (sharply.0, omega (arith, less, sharply.1))

  pub closing : Closing g r
  unfolding circuit_in
  closing = record {
    closes = closes_within;
    closes_sharply = λ ok pos enough. closes_sharply ok (omega arith) enough;
    back_within = λ done. (chain done).within;
    ended = λ done end e. chain_ended (chain done) e end;
    closed = λ done none. chain_closed (chain done) (none_counted g.counts g.table none);
  }

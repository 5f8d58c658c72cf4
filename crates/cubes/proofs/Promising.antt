-- The promises of the judge's contract, for whatever cubes it accepts, over the bytes that were given and those that the call leaves. Assumes nothing.
use mathlib.Core.Path.{◌≡◌, sym, ap, ◌∙◌}
use mathlib.Core.Bool.{Bool, true, false}
use mathlib.Core.List.{List, []}
use Prim.Native.Nat.{ℕ, ◌+◌, ◌<◌}
use native.Mathlib.Omega.{arith}
use lib.ListN.{length, get_or}
use Rattle.three.specs.Value.{unknown}
use Rattle.three.specs.Cube.{known_fields}
use Rattle.three.specs.Record.{unpack}
use Rattle.three.proofs.Pack.{unpack_over}
use Rattle.circuit.specs.Refusal.{left_by}
use Rattle.circuit.specs.Table.{verdicts}
use Rattle.circuit.proofs.Refusals.{accepted_new}
use Rattle.cubes.specs.declared.JudgeAnswer.{JudgeAnswer}
use Rattle.cubes.specs.Judge.{JudgeGiven, circuit_in, cubes_in, verdict_fields, settled_fields, Judged}
use Rattle.cubes.specs.Execution.{Execution, lamps_after, bads_after, watched_after}
use Rattle.cubes.specs.Exact.{Sometimes, NoX, Opens}
use Rattle.cubes.specs.Promise.{CoveredLegal, Covered, Promises}
use Rattle.cubes.proofs.StoredCube.{cube_in_sized}
use Rattle.cubes.proofs.Buffered.{literals_counted, verdicts_counted, latches_counted, verdict_sized, settled_sized}
use Rattle.cubes.proofs.Blocking.{none_counted, always_lawful}
use Rattle.cubes.proofs.Watching.{lamp_watched, bad_watched}
use Rattle.cubes.proofs.Cover.{verdict_known}
use Rattle.cubes.proofs.Following.{Chain, chain_early, chain_late, chain_ended, latch_known}
use Rattle.cubes.proofs.Chains.{test_chain}
use Rattle.cubes.proofs.Judging.{accepted_chain}
use Rattle.cubes.proofs.Exact.{chain_exact, chain_opens}
use Rattle.cubes.proofs.Entries.{lamp_below, lamp_entry, bad_entry, lamp_judged, bad_judged}

-- what is read elsewhere under another number is lit or dark at the same ticks
sometimes_read : (read read' : ℕ → List Bool) (i i' : ℕ) → ((t : ℕ) → get_or (read t) i false ≡ get_or (read' t) i' false) → {n : ℕ} {v : Bool} → Sometimes n read' i' v → Sometimes n read i v
sometimes_read read read' i i' same s = (s.0, s.1, same s.0 ∙ s.2)

module _ (g : JudgeGiven) (r : JudgeAnswer) (verdict' settled' : List ℕ) (judged : Judged g r verdict' settled') where
  module _ (done : r.number ≡ 0) where
    written : {A : Type 0} (new old : A) → left_by r.number new old ≡ new
    written new old = sym (accepted_new r.number new old done)

    pub verdict_is : unpack (verdicts g.counts) verdict' ≡ verdict_fields g
    unfolding verdict_fields circuit_in
    verdict_is =
        ap (unpack (verdicts g.counts)) (judged.fills_verdict ∙ written _ _)
        ∙ unpack_over (verdicts g.counts) (verdict_fields g) g.verdict (verdict_sized g.counts g.table (cubes_in g) g.n)

    pub settled_is : unpack g.counts.latches settled' ≡ settled_fields g
    unfolding settled_fields circuit_in cubes_in
    settled_is =
        ap (unpack g.counts.latches) (judged.fills_settled ∙ written _ _)
        ∙ unpack_over g.counts.latches (settled_fields g) g.settled (settled_sized g.counts g.table (cubes_in g) (cube_in_sized g.counts.latches g.cubes) g.n g.j)

    pub count_is : r.settled ≡ known_fields (settled_fields g)
    count_is = judged.settles ∙ written _ _

    pub accepted_is_chain : Chain (circuit_in g) (cubes_in g) g.n g.j
    unfolding circuit_in cubes_in
    accepted_is_chain = test_chain _ _ _ _ (λ k. cube_in_sized g.counts.latches g.cubes k ∙ sym (latches_counted g.counts g.table)) (accepted_chain g (sym done ∙ judged.answers))

    covers_legal : (e : Execution (circuit_in g)) → CoveredLegal g verdict' settled' e
    unfolding verdict_fields settled_fields circuit_in cubes_in
    covers_legal e = record {
      early = chain_early accepted_is_chain e;
      late = chain_late accepted_is_chain e;
      ended = chain_ended accepted_is_chain e;
      judged = lamp_judged g.counts g.table verdict' _ verdict_is e (verdict_known accepted_is_chain.cover e);
      bad_judged = bad_judged g.counts g.table verdict' _ verdict_is e (verdict_known accepted_is_chain.cover e);
      keeps = λ i v is. latch_known accepted_is_chain e i v (rw settled_is at is);
    }

    unconstrained : g.counts.constraints ≡ 0 → (circuit_in g).constraints ≡ []
    unfolding circuit_in
    unconstrained = none_counted g.counts g.table

    -- without constraints every tick is legal
    covers : g.counts.constraints ≡ 0 → (e : Execution (circuit_in g)) → Covered g verdict' settled' e
    covers none e =
        let legal = always_lawful (circuit_in g) (unconstrained none) e in
        let all = covers_legal e in
        record {
          early = λ t. all.early t (legal t);
          late = λ t. all.late t (legal t);
          judged = λ i v is t. all.judged i v is t (legal t);
          bad_judged = λ i v is t. all.bad_judged i v is t (legal t);
          keeps = λ i v is t. all.keeps i v is t (legal t);
        }

  -- ---- cubes without X

  whole : NoX g → (k : ℕ) → k < g.n → known_fields (cubes_in g k) ≡ length (circuit_in g).latches
  unfolding circuit_in cubes_in
  whole no_x k h = no_x k h ∙ sym (latches_counted g.counts g.table)

  module _ (done : r.number ≡ 0) (free : g.counts.constraints ≡ 0) (no_x : NoX g) (none : (circuit_in g).inputs ≡ 0) (e : Execution (circuit_in g)) where
    watched_opens : (i : ℕ) → i < verdicts g.counts → get_or (verdict_fields g) i unknown ≡ unknown → Sometimes g.n (watched_after e) i true × Sometimes g.n (watched_after e) i false
    unfolding verdict_fields circuit_in
    watched_opens i h is = chain_opens (accepted_is_chain done) (unconstrained done free) (whole no_x) e none i (rw (verdicts_counted g.counts g.table) h) is

    lamp_opens : (i : ℕ) → i < g.counts.lamps → get_or (unpack g.counts.lamps verdict') i unknown ≡ unknown → Sometimes g.n (lamps_after e) i true × Sometimes g.n (lamps_after e) i false
    unfolding circuit_in
    lamp_opens i h is =
        let both = watched_opens i (omega arith) (sym (lamp_entry g.counts g.table verdict' _ (verdict_is done) i h) ∙ is) in
        let same : (t : ℕ) → get_or (lamps_after e t) i false ≡ get_or (watched_after e t) i false = λ t. sym (lamp_watched e t i (lamp_below g.counts g.table h)) in
        (sometimes_read (lamps_after e) (watched_after e) i i same both.0, sometimes_read (lamps_after e) (watched_after e) i i same both.1)

    bad_opens : (i : ℕ) → i < g.counts.bads → get_or (unpack (verdicts g.counts) verdict') (g.counts.lamps + i) unknown ≡ unknown → Sometimes g.n (bads_after e) i true × Sometimes g.n (bads_after e) i false
    unfolding circuit_in
    bad_opens i h is =
        let at : ℕ = length (circuit_in g).lamps + i in
        let both = watched_opens at (omega (arith, h, literals_counted g.counts g.table)) (sym (bad_entry g.counts g.table verdict' _ (verdict_is done) i) ∙ is) in
        let same : (t : ℕ) → get_or (bads_after e t) i false ≡ get_or (watched_after e t) at false = λ t. sym (bad_watched e t i) in
        (sometimes_read (bads_after e) (watched_after e) i at same both.0, sometimes_read (bads_after e) (watched_after e) i at same both.1)

  opens : Opens g r verdict'
  unfolding cubes_in
  opens = record {
    exact = λ done free no_x e. chain_exact (accepted_is_chain done) (unconstrained done free) (whole no_x) e;
    opens = lamp_opens;
    opens_bad = bad_opens;
  }

  pub promises : Promises g verdict' settled' r
  promises = record { covers_legal = covers_legal; covers = covers; opens = opens }

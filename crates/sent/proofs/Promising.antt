-- The promise of an accepted cover, over the bytes that were given and those that the call leaves: its tests are a cover of every legal execution, and
-- without constraints of every one. Assumes nothing.
use mathlib.Core.Path.{◌≡◌, sym, ap, ◌∙◌}
use mathlib.Core.List.{List, []}
use Prim.Native.Nat.{ℕ}
use Rattle.three.specs.Record.{unpack}
use Rattle.three.proofs.Pack.{unpack_over}
use Rattle.circuit.specs.Table.{verdicts}
use Rattle.circuit.proofs.Refusals.{accepted_new}
use Rattle.cubes.specs.Run.{next_cube, start, search}
use Rattle.cubes.specs.Execution.{Execution}
use Rattle.cubes.proofs.Blocking.{none_counted, always_lawful}
use Rattle.cubes.proofs.Buffered.{verdict_sized}
use Rattle.cubes.proofs.Cover.{Cover, visited, visited_covers, verdict_known}
use Rattle.cubes.proofs.Covering.{place_of, test_cover}
use Rattle.cubes.proofs.Entries.{lamp_judged, bad_judged}
use Rattle.sent.specs.declared.CoverAnswer.{CoverAnswer}
use Rattle.sent.specs.Call.{SentGiven, circuit_in, cubes_in, verdict_fields, Sent}
use Rattle.sent.specs.Promise.{KeptLegal, Kept, Keeps}
use Rattle.sent.proofs.Refusing.{accepted_covers}

module _ (g : SentGiven) (r : CoverAnswer) (verdict' : List ℕ) (sent : Sent g r verdict') where
  module _ (done : r.number ≡ 0) where
    pub verdict_is : unpack (verdicts g.counts) verdict' ≡ verdict_fields g
    unfolding verdict_fields circuit_in
    verdict_is =
        ap (unpack (verdicts g.counts)) (sent.fills_verdict ∙ sym (accepted_new r.number _ _ done))
        ∙ unpack_over (verdicts g.counts) (verdict_fields g) g.verdict (verdict_sized g.counts g.table (cubes_in g) g.n)

    -- the cube over the start, and the cube over each next state
    origin : ℕ
    origin = place_of (search (cubes_in g) g.n (start (circuit_in g)))

    follow : ℕ → ℕ
    follow k = place_of (search (cubes_in g) g.n (next_cube (circuit_in g) (cubes_in g k)))

    sent_cover : Cover (circuit_in g) (cubes_in g) g.n origin follow
    unfolding origin follow
    sent_cover = test_cover _ _ _ (accepted_covers g (sym done ∙ sent.answers))

    keeps_legal : (e : Execution (circuit_in g)) → KeptLegal g verdict' e
    unfolding verdict_fields circuit_in
    keeps_legal e = record {
      stays = λ t legal. let there = visited_covers sent_cover e t legal in record { k = visited origin follow t; below = there.0; holds = there.1 };
      judged = lamp_judged g.counts g.table verdict' _ verdict_is e (verdict_known sent_cover e);
      bad_judged = bad_judged g.counts g.table verdict' _ verdict_is e (verdict_known sent_cover e);
    }

    unconstrained : g.counts.constraints ≡ 0 → (circuit_in g).constraints ≡ []
    unfolding circuit_in
    unconstrained = none_counted g.counts g.table

    -- without constraints every tick is legal
    keeps : g.counts.constraints ≡ 0 → (e : Execution (circuit_in g)) → Kept g verdict' e
    keeps none e =
        let legal = always_lawful (circuit_in g) (unconstrained none) e in
        let all = keeps_legal e in
        record {
          stays = λ t. all.stays t (legal t);
          judged = λ i v is t. all.judged i v is t (legal t);
          bad_judged = λ i v is t. all.bad_judged i v is t (legal t);
        }

  pub promises : Keeps g r verdict'
  promises = record { covers_legal = keeps_legal; covers = keeps }

-- What the contracts of chain and judge allow, one after the other, is `answer_in`, and of the lent buffers that needs the lengths alone. Assumes nothing.
use mathlib.Core.Path.{◌≡◌, refl, sym, ap, ap₂, ◌∙◌}
use mathlib.Core.List.{List, [], ◌∷◌}
use Prim.Native.Nat.{ℕ, zero, suc, ◌/◌}
use native.Mathlib.Omega.{arith}
use lib.Dec.{leb}
use lib.ListN.{length, replicate, length-replicate}
use Rattle.three.specs.Lists.{over}
use Rattle.three.specs.Cube.{Cube, known_fields}
use Rattle.three.specs.Record.{bytes_for, pack}
use Rattle.circuit.specs.declared.Counts.{Counts}
use Rattle.circuit.specs.Refusal.{◌or◌, refusal, left_by}
use Rattle.circuit.specs.Table.{verdicts, circuit_of, board_tests}
use Rattle.circuit.proofs.Refusals.{refusal_alike, refused_old, accepted_new}
use Rattle.circuit.proofs.Legality.{board_numbered}
use Rattle.cubes.specs.declared.ChainAnswer.{ChainAnswer}
use Rattle.cubes.specs.Buffer.{cube_bytes}
use Rattle.cubes.specs.Run.{cube_at, run, verdict as verdict_of, settled as settled_of}
use Rattle.cubes.specs.Chain.{room_in, outcome_number, chain_tests, refused_by, circuit_in, outcome_in, cubes_in, back_in}
use Rattle.cubes.specs.Judge.{result_tests, verdict_fields, settled_fields}
use Rattle.cubes.proofs.Chains.{Relit}
use Rattle.cubes.proofs.Chaining.{n_is, j_is}
use Rattle.cubes.proofs.Own.{relit_self, own_board, own_decided, own_verdict, own_settled}
use Rattle.witness.specs.Answer.{RunGiven, RunAnswer, chains, judges, Runs, Answer, answer_from, answer_in, Sized, zeroed}

-- ---- the contract, as values

-- what a run answers and leaves
pub record Answers (g : RunGiven) (r : RunAnswer) (cubes' verdict' settled' : List ℕ) (a : Answer) : Type 0 where
  pub number : r.number ≡ a.number
  pub n : r.cubes ≡ a.n
  pub j : r.back ≡ a.j
  pub s : r.settled ≡ a.s
  pub cubes : cubes' ≡ over a.cubes g.cubes
  pub verdict : verdict' ≡ over a.verdict g.verdict
  pub settled : settled' ≡ over a.settled g.settled

-- a buffer after a call with this number, as what is written over it
written : (k : ℕ) (xs buffer : List ℕ) → left_by k (over xs buffer) buffer ≡ over (left_by k xs []) buffer
unfolding left_by over
written zero xs buffer = refl
written (suc k) xs buffer = refl

written_after : {k number : ℕ} (xs buffer : List ℕ) {buffer' : List ℕ} → k ≡ number → buffer' ≡ left_by k (over xs buffer) buffer → buffer' ≡ over (left_by number xs []) buffer
written_after {k} xs buffer e f = f ∙ written k xs buffer ∙ ap (λ (m : ℕ). over (left_by m xs []) buffer) e

-- a run that is not refused has a chain that was not
pub run_chained : {g : RunGiven} {r : RunAnswer} {cubes verdict settled : List ℕ} (runs : Runs g r cubes verdict settled) → r.number ≡ 0 → runs.number ≡ 0
run_chained runs done = go runs.number refl
  where
    go : (k : ℕ) → runs.number ≡ k → runs.number ≡ 0
    go zero e = e
    go (suc m) e = sym (runs.stays (λ z. absurd (omega (arith, e, z)))).0 ∙ done

-- on the chain's own cubes the judge refuses for its results alone
module _ {g : RunGiven} {r : RunAnswer} {cubes verdict settled : List ℕ} (runs : Runs g r cubes verdict settled) (closed : runs.number ≡ 0) where
  abbrev chain : ChainAnswer
  chain = record { number = runs.number; cubes = r.cubes; back = r.back }

  abbrev relit : Relit (circuit_in (chains g)) (circuit_of g.counts g.table)
  relit = unfold circuit_in in relit_self (circuit_of g.counts g.table)

  own_number : r.number ≡ refusal (result_tests (judges g [] 0 0))
  unfolding result_tests
  own_number =
      (runs.judged closed).answers
      ∙ sym (own_decided (chains g) chain cubes runs.chained closed g.counts g.table (own_board (chains g) chain cubes runs.chained closed) relit g.verdict g.settled)

  own_lamps : verdict_fields (judges g cubes r.cubes r.back) ≡ verdict_of (circuit_in (chains g)) (cube_at (circuit_in (chains g)) g.w) r.cubes
  unfolding circuit_in
  own_lamps = own_verdict (chains g) chain cubes runs.chained closed g.counts g.table (own_board (chains g) chain cubes runs.chained closed) relit g.verdict g.settled

  own_latches : settled_fields (judges g cubes r.cubes r.back) ≡ settled_of (circuit_in (chains g)) (cube_at (circuit_in (chains g)) g.w) r.cubes r.back
  unfolding circuit_in
  own_latches = own_settled (chains g) chain cubes runs.chained closed g.counts g.table (own_board (chains g) chain cubes runs.chained closed) relit g.verdict g.settled

  own_fields : (settled_fields (judges g cubes r.cubes r.back) ≡ settled_of (circuit_in (chains g)) (cube_at (circuit_in (chains g)) g.w) (cubes_in (chains g)) (back_in (chains g)))
      × (verdict_fields (judges g cubes r.cubes r.back) ≡ verdict_of (circuit_in (chains g)) (cube_at (circuit_in (chains g)) g.w) (cubes_in (chains g)))
  own_fields =
      let n = n_is (chains g) chain cubes runs.chained closed in
      let j = j_is (chains g) chain cubes runs.chained closed in
      (own_latches ∙ ap₂ (settled_of (circuit_in (chains g)) (cube_at (circuit_in (chains g)) g.w)) n j, own_lamps ∙ ap (verdict_of (circuit_in (chains g)) (cube_at (circuit_in (chains g)) g.w)) n)

pub runs_answers : {g : RunGiven} {r : RunAnswer} {cubes verdict settled : List ℕ} → Runs g r cubes verdict settled → Answers g r cubes verdict settled (answer_in g)
unfolding answer_in answer_from cubes_in back_in
runs_answers {g} {r} {cubes} {verdict} {settled} runs = go runs.number refl
  where
    chain : ℕ
    chain = left_by (refused_by (chains g)) (outcome_number (outcome_in (chains g))) (refused_by (chains g))

    results : ℕ
    results = refusal (result_tests (judges g [] 0 0))

    go : (k : ℕ) → runs.number ≡ k → Answers g r cubes verdict settled (answer_in g)
    go zero closed =
        let number : r.number ≡ left_by chain results chain = own_number runs closed ∙ accepted_new chain _ _ (sym runs.chained.answers ∙ closed) in
        let judged = runs.judged closed in
        let fields = own_fields runs closed in
        record {
          number = number;
          n = runs.chained.counts;
          j = runs.chained.goes_back;
          s = judged.settles ∙ ap₂ (λ (k : ℕ) (v : Cube). left_by k (known_fields v) 0) number fields.0;
          cubes = written_after _ g.cubes refl runs.chained.fills_cubes;
          verdict = written_after _ g.verdict number (judged.fills_verdict ∙ ap (λ (v : Cube). left_by r.number (over (pack v) g.verdict) g.verdict) fields.1);
          settled = written_after _ g.settled number (judged.fills_settled ∙ ap (λ (v : Cube). left_by r.number (over (pack v) g.settled) g.settled) fields.0);
        }
    go (suc m) e =
        let stays = runs.stays (λ z. absurd (omega (arith, e, z))) in
        let refused : (chain ≡ 0 → ⊥) = λ z. absurd (omega (arith, runs.chained.answers, e, z)) in
        let number : r.number ≡ left_by chain results chain = stays.0 ∙ runs.chained.answers ∙ refused_old chain _ _ refused in
        let not_judged : (r.number ≡ 0 → ⊥) = λ z. absurd (omega (arith, stays.0, e, z)) in
        record {
          number = number;
          n = runs.chained.counts;
          j = runs.chained.goes_back;
          s = stays.1 ∙ refused_old (left_by chain results chain) _ _ (λ z. not_judged (number ∙ z));
          cubes = written_after _ g.cubes refl runs.chained.fills_cubes;
          verdict = written_after _ g.verdict number (stays.2 ∙ refused_old r.number _ _ not_judged);
          settled = written_after _ g.settled number (stays.3 ∙ refused_old r.number _ _ not_judged);
        }

-- ---- what they depend on

answer_alike : (g h : RunGiven) → refused_by (chains g) ≡ refused_by (chains h) → refusal (result_tests (judges g [] 0 0)) ≡ refusal (result_tests (judges h [] 0 0))
    → circuit_in (chains g) ≡ circuit_in (chains h) → g.w ≡ h.w → room_in g.counts g.cubes ≡ room_in h.counts h.cubes → answer_in g ≡ answer_in h
unfolding answer_in outcome_in
answer_alike g h refused results circuit w room i = answer_from (refused i) (results i) (circuit i) (w i) (room i) (run (circuit i) (w i) (room i))

-- the buffers' lengths
pub answer_zeroed : (size : ℕ) (g : RunGiven) → Sized size g → answer_in g ≡ answer_in (zeroed g.counts g.table g.w size)
unfolding refused_by circuit_in room_in result_tests
answer_zeroed size g sized =
    let long : length g.cubes ≡ length {A = ℕ} (replicate size 0) = sized.cubes ∙ sym (length-replicate size 0) in
    answer_alike g (zeroed g.counts g.table g.w size)
    (λ i. refusal (chain_tests g.counts g.table g.w (long i)))
    (λ i. refusal (leb (bytes_for (verdicts g.counts)) (sized.verdict i) or 10 ∷ leb (bytes_for g.counts.latches) (sized.settled i) or 10 ∷ []))
    refl
    refl
    (λ i. long i / cube_bytes g.counts.latches)

-- and of two tables that are refused alike, or neither, the circuit alone
pub answer_tables : (c : Counts) (table table' : List ℕ) (w size : ℕ) → refusal (board_tests c table) ≡ refusal (board_tests c table')
    → circuit_of c table ≡ circuit_of c table' → answer_in (zeroed c table w size) ≡ answer_in (zeroed c table' w size)
unfolding circuit_in refused_by chain_tests result_tests
answer_tables c table table' w size alike circuit =
    let refused = refusal_alike (board_tests c table) (board_tests c table') _ (board_numbered c table) (board_numbered c table') alike in
    answer_alike (zeroed c table w size) (zeroed c table' w size) refused refl circuit refl refl

-- The first piece: a refusal, an open lamp, or a lamp that is known in every stored cube. Assumes nothing.
use mathlib.Core.Path.{◌≡◌, refl, sym, ap, ◌∙◌}
use mathlib.Core.List.{List, []}
use Prim.Native.Nat.{ℕ, zero, suc, ◌+◌, ◌-◌, ◌≤◌, ◌<◌}
use native.Mathlib.Omega.{arith}
use borrow.Author.Tests.{le-ltb, lt-ltb}
use lib.ListN.{length, get_or}
use Rattle.std.specs.Prelude.{Some, None}
use Rattle.three.specs.Value.{unknown, code, decode}
use Rattle.three.specs.Cube.{Cube, alike}
use Rattle.three.specs.Record.{pair_at, unpack}
use Rattle.three.proofs.Lists.{get_or_tabulate}
use Rattle.circuit.specs.declared.Counts.{Counts}
use Rattle.circuit.specs.Circuit.{Circuit}
use Rattle.circuit.specs.Refusal.{refusal}
use Rattle.circuit.specs.Table.{verdicts, circuit_of, circuit_tests}
use Rattle.circuit.proofs.Legality.{legal}
use Rattle.putting.specs.PutInCode.{Put}
use Rattle.cubes.specs.declared.ChainAnswer.{ChainAnswer}
use Rattle.cubes.specs.declared.JudgeAnswer.{JudgeAnswer}
use Rattle.cubes.specs.Run.{cube_at, verdict}
use Rattle.cubes.specs.Buffer.{cube_in}
use Rattle.cubes.specs.Chain.{ChainGiven, circuit_in, Chained}
use Rattle.cubes.specs.Judge.{JudgeGiven, verdict_fields, cubes_in, Judged, circuit_in as judged_in}
use Rattle.cubes.proofs.Buffered.{verdict_same, literals_counted}
use Rattle.cubes.proofs.Given.{cubes_stand}
use Rattle.cubes.proofs.Chaining.{own_few, own_sound}
use Rattle.cubes.proofs.Own.{relit_self, own_board, own_cube, own_accepted}
use Rattle.cubes.proofs.Promising.{verdict_is}
use Rattle.rows.specs.declared.Row.{Row}
use Rattle.rows.specs.Rows.{row}
use Rattle.reasons.specs.Reasons.{is_known, line, told, told_from}
use Rattle.reporting.specs.Reporting.{refusing, of_run}
use Rattle.reporting.proofs.Running.{chain_stopped}
use Rattle.why_report.specs.WhyReport.{explanation, explained, run_explained}
use Rattle.why_report.specs.WhyReportInCode.{explanation_in, Judgeable, Begins}
use Rattle.why_report.proofs.Pieces.{put_piece}
use Rattle.why_report.proofs.Known.{known_field, known_in}

-- ---- the lamp's verdict in given cubes

module _ (counts : Counts) (table cubes : List ℕ) (n j : ℕ) (judgeable : Judgeable counts table cubes n j) (lamp : ℕ) (is_lamp : lamp < counts.lamps)
    (verdict₀ settled₀ : List ℕ) (v : length verdict₀ ≡ 32) (s : length settled₀ ≡ 128) where
  abbrev own : JudgeGiven
  own = record { counts = counts; table = table; cubes = cubes; n = n; j = j; verdict = verdict₀; settled = settled₀ }

  abbrev whole : List ℕ
  whole = explained lamp (circuit_of counts table) (cube_in counts.latches cubes) n

  pub never_refused : {q : JudgeAnswer} {verdict' settled' : List ℕ} → Judged own q verdict' settled' → q.number ≡ 0
  never_refused judged = judged.answers ∙ sym (judgeable.judged verdict₀ settled₀ v s)

  module _ {q : JudgeAnswer} {verdict' settled' : List ℕ} (judged : Judged own q verdict' settled') {field : ℕ} (f : field ≡ pair_at verdict' lamp) where
    verdict_as : decode field ≡ get_or (verdict (circuit_of counts table) (cube_in counts.latches cubes) n) lamp unknown
    unfolding unpack verdict_fields judged_in cubes_in
    verdict_as =
        ap decode f
        ∙ sym (get_or_tabulate (verdicts counts) (λ i. decode (pair_at verdict' i)) lamp unknown (omega (arith, is_lamp)))
        ∙ ap (λ (fields : Cube). get_or fields lamp unknown) (verdict_is own q verdict' settled' judged (never_refused judged))

    module _ {out out' : List ℕ} {r : ℕ} (put : Put out 0 (row Row.Lamp lamp (decode field)) out' r × (r ≤ length out)) where
      pub verdict_open : field ≡ 0 → Begins table cubes whole lamp out (record { bytes = r; following = None }) out'
      unfolding explained told_from is_known alike code decode
      verdict_open z = record { piece = put_piece (rw (← verdict_as, z)) put; ready = tt }

      pub verdict_known : (field ≡ 0 → ⊥) → Begins table cubes whole lamp out (record { bytes = r; following = Some (record { counts = counts; cubes = n }) }) out'
      unfolding explained explanation_in
      verdict_known h = record {
        piece = put_piece (rw (← verdict_as, known_field field h)) put;
        ready = record { are = judgeable.are; is_lamp = is_lamp; known = known_in counts table (cube_in counts.latches cubes) n lamp is_lamp (rw (← verdict_as) (known_field field h)) };
      }

-- ---- the same cubes by other names

told_same : (f g : ℕ → Cube) (more from k : ℕ) → ((i : ℕ) → k ≤ i → i ≤ k + more → f i ≡ g i) → told f from k more ≡ told g from k more
unfolding told
told_same f g zero from k h = ap (line from k) (h k (omega arith) (omega arith))
told_same f g (suc more) from k h =
    rw (h k (omega arith) (omega arith), h (suc k) (omega arith) (omega arith), told_same f g more from (suc k) (λ i a b. h i (omega arith) (omega arith)), told_same f g more (suc k) (suc k) (λ i a b. h i (omega arith) (omega arith)))

abbrev lines_of : (ℕ → Cube) → ℕ → List ℕ
lines_of f n = elim n [ zero ↦ [] | suc more ↦ told f 0 0 more ]

lines_same : (f g : ℕ → Cube) (n : ℕ) → ((i : ℕ) → i < n → f i ≡ g i) → lines_of f n ≡ lines_of g n
lines_same f g zero h = refl
lines_same f g (suc n) h = told_same f g n 0 0 (λ i a b. h i (omega arith))

from_same : (f g : ℕ → Cube) (n : ℕ) → ((i : ℕ) → i < n → f i ≡ g i) → told_from f n 0 ≡ told_from g n 0
unfolding told_from
from_same f g n h = let e : n - 0 ≡ n = omega arith in ap (lines_of f) e ∙ lines_same f g n h ∙ sym (ap (lines_of g) e)

explained_same : (lamp : ℕ) (c : Circuit) (f g : ℕ → Cube) (n : ℕ) → ((i : ℕ) → i < n → f i ≡ g i) → explained lamp c f n ≡ explained lamp c g n
unfolding explained
explained_same lamp c f g n h = rw (verdict_same c f g n h, from_same (λ k. explanation lamp c (f k)) (λ k. explanation lamp c (g k)) n (λ i l. ap (explanation lamp c) (h i l)))

-- ---- what the chain left

module _ (counts : Counts) (table : List ℕ) (accepts : 0 ≡ refusal (circuit_tests counts table)) (cubes : List ℕ) (sized : length cubes ≡ 65536) where
  abbrev given : ChainGiven
  given = record { counts = counts; table = table; w = 16; cubes = cubes }

  module _ {r : ChainAnswer} {cubes' : List ℕ} (chained : Chained given r cubes') (stopped : r.number ≡ 0) where
    pub judgeable : Judgeable counts table cubes' r.cubes r.back
    unfolding circuit_in
    judgeable = record {
      are = record { accepts = accepts; stand = cubes_stand counts cubes' r.cubes (own_few given r cubes' chained stopped) (own_sound given r cubes' chained stopped) };
      judged = λ verdict settled v s.
          own_accepted given r cubes' chained stopped counts table (own_board given r cubes' chained stopped) (relit_self (circuit_in given)) verdict settled
          (omega (arith, (legal counts table accepts).bounded, v)) (omega (arith, (legal counts table accepts).bounded, s));
    }

    module _ (lamp : ℕ) where
      pub no_such_lamp : counts.lamps ≤ lamp → refusing 23 ≡ of_run (run_explained lamp) (record { counts = counts; words = table })
      unfolding run_explained circuit_in
      no_such_lamp h = sym (chain_stopped counts table accepts cubes sized chained (run_explained lamp) stopped ∙ rw (literals_counted counts table, le-ltb lamp counts.lamps h))

      pub lamp_explained : lamp < counts.lamps → explained lamp (circuit_of counts table) (cube_in counts.latches cubes') r.cubes ≡ of_run (run_explained lamp) (record { counts = counts; words = table })
      unfolding run_explained circuit_in
      lamp_explained h =
          explained_same lamp (circuit_of counts table) _ (cube_at (circuit_of counts table) 16) r.cubes
          (λ k l. sym (own_cube given r cubes' chained stopped counts table (own_board given r cubes' chained stopped) (relit_self (circuit_in given)) k l))
          ∙ sym (chain_stopped counts table accepts cubes sized chained (run_explained lamp) stopped ∙ rw (literals_counted counts table, lt-ltb lamp counts.lamps h))

-- The report from what the run answers: the records that the program lends are long enough for any circuit. Assumes nothing.
use mathlib.Core.Path.{◌≡◌, sym, ap, ◌∙◌}
use mathlib.Core.List.{List, ◌++◌}
use Prim.Native.Nat.{ℕ, ◌+◌, ◌*◌, ◌≤◌}
use native.Mathlib.Nat.{zero-add}
use native.Mathlib.Omega.{arith}
use borrow.Author.Tests.{eq-eqb, ne_eqb}
use lib.ListN.{length, take, drop}
use lib.Seq.{take-append_seam}
use Rattle.three.specs.Record.{unpack}
use Rattle.three.proofs.Lists.{tabulate_append}
use Rattle.three.proofs.Pack.{length_unpack}
use Rattle.circuit.specs.declared.Counts.{Counts}
use Rattle.circuit.specs.Refusal.{refusal}
use Rattle.circuit.specs.Table.{verdicts, circuit_tests}
use Rattle.circuit.specs.RulesInCode.{Bounded}
use Rattle.circuit.proofs.Legality.{legal}
use Rattle.putting.specs.PutInCode.{Put}
use Rattle.putting.proofs.Putting.{put_then}
use Rattle.cubes.specs.declared.ChainAnswer.{ChainAnswer}
use Rattle.cubes.specs.declared.JudgeAnswer.{JudgeAnswer}
use Rattle.cubes.specs.Run.{cube_at, verdict as verdict_of, settled as settled_of}
use Rattle.cubes.specs.Chain.{ChainGiven, circuit_in, Chained}
use Rattle.cubes.specs.Judge.{JudgeGiven, settled_fields, Judged}
use Rattle.cubes.proofs.Buffered.{literals_counted}
use Rattle.cubes.proofs.Own.{relit_self, own_board, own_accepted, own_verdict, own_settled}
use Rattle.cubes.proofs.Promising.{verdict_is, settled_is, count_is}
use Rattle.rows.specs.declared.Row.{Row}
use Rattle.rows.specs.Rows.{rows}
use Rattle.reporting.specs.Reporting.{of_run}
use Rattle.reporting.proofs.Reading.{put_front}
use Rattle.reporting.proofs.Running.{chain_stopped}
use Rattle.reported.specs.Report.{closing, ending, opening, stop_report, run_report, report_of, Reported}

-- a report that is put from the front
pub put_report : {text out out' : List ℕ} {r : ℕ} (report : List ℕ) → report ≡ report_of text → Put out 0 report out' r × (r ≤ length out) → Reported text out r out'
put_report report e p = let is = put_front e p in record { returns = is.0; fills = is.1; fits = is.2 }

-- the first line, by whether the run has ended
pub opening_ended : {d e : List ℕ} {p q : ℕ} (n j s : ℕ) → j ≡ n → Put d p (ending n) e q × (q ≤ 100) → Put d p (opening n j s) e q × (q ≤ 100)
unfolding opening
opening_ended n j s end a = rw (eq-eqb j n end) a

pub opening_closed : {d e : List ℕ} {p q : ℕ} (n j s : ℕ) → (j ≡ n → ⊥) → Put d p (closing n j s) e q × (q ≤ 100) → Put d p (opening n j s) e q × (q ≤ 100)
unfolding opening
opening_closed n j s closed a = rw (ne_eqb j n closed) a

-- the first fields of a record, and all of it
first_fields : (few more : ℕ) (bytes : List ℕ) → drop 0 (unpack (0 + few) bytes) ≡ take few (unpack (few + more) bytes)
unfolding unpack
first_fields few more bytes =
    let cut : take (length (unpack few bytes)) (unpack (few + more) bytes) ≡ unpack few bytes =
    ap (take (length (unpack few bytes))) (tabulate_append few more _) ∙ take-append_seam (unpack few bytes) _ in
    ap (λ (n : ℕ). unpack n bytes) (zero-add few) ∙ sym (rw length_unpack at cut)

-- the first line, and the rows behind it: of the lamps, of the bad states and of the latches
pub rows_put : {d e f g h : List ℕ} {p q r s : ℕ} (line : List ℕ) (lamps bads latches : ℕ) (verdict settled : List ℕ)
    → Put d 0 line e p → Put e p (rows Row.Lamp 0 (drop 0 (unpack (0 + lamps) verdict))) f q
    → Put f q (rows Row.Bad 0 (drop lamps (unpack (lamps + bads) verdict))) g r → Put g r (rows Row.Latch 0 (drop 0 (unpack (0 + latches) settled))) h s
    → Put d 0 (line ++ (rows Row.Lamp 0 (take lamps (unpack (lamps + bads) verdict)) ++ (rows Row.Bad 0 (drop lamps (unpack (lamps + bads) verdict)) ++ rows Row.Latch 0 (unpack latches settled)))) h s
rows_put line lamps bads latches verdict settled opens lit bad kept =
    put_then opens (put_then (rw (first_fields lamps bads verdict) at lit) (put_then bad (rw (zero-add latches) at kept)))

-- the report on any circuit has room, as have its verdicts and settled values: what `put_stopped` asks, at any call. The refusal stands first, since `grind` finds the law by it
pub report_room : (counts : Counts) (table : List ℕ) → 0 ≡ refusal (circuit_tests counts table)
    → (refusal (circuit_tests counts table) ≡ 0) × (100 + 34 * verdicts counts + 34 * counts.latches ≤ 22000) × (counts.lamps ≤ 64) × (verdicts counts ≤ 4 * 32) × (counts.latches ≤ 4 * 128)
report_room counts table accepts = omega (arith, accepts, (legal counts table accepts).bounded)

module _ (counts : Counts) (table : List ℕ) (accepts : 0 ≡ refusal (circuit_tests counts table)) (cubes : List ℕ) (c : length cubes ≡ 65536) where
  abbrev given : ChainGiven
  given = record { counts = counts; table = table; w = 16; cubes = cubes }

  bounded : Bounded counts
  bounded = (legal counts table accepts).bounded

  module _ {r : ChainAnswer} {cubes' : List ℕ} (chained : Chained given r cubes') where
    module _ (stopped : r.number ≡ 0) (verdict settled : List ℕ) (v : length verdict ≡ 32) (s : length settled ≡ 128) where
      abbrev own : JudgeGiven
      own = record { counts = counts; table = table; cubes = cubes'; n = r.cubes; j = r.back; verdict = verdict; settled = settled }

      -- the judge accepts what the chain left
      module _ {q : JudgeAnswer} {verdict' settled' : List ℕ} (judged : Judged own q verdict' settled') where
        pub never_refused : q.number ≡ 0
        unfolding circuit_in
        never_refused =
            judged.answers
            ∙ sym (own_accepted given r cubes' chained stopped counts table (own_board given r cubes' chained stopped) (relit_self (circuit_in given)) verdict settled (omega (arith, bounded, v)) (omega (arith, bounded, s)))

        verdict_as : unpack (verdicts counts) verdict' ≡ verdict_of (circuit_in given) (cube_at (circuit_in given) 16) r.cubes
        unfolding circuit_in
        verdict_as =
            verdict_is own q verdict' settled' judged never_refused
            ∙ own_verdict given r cubes' chained stopped counts table (own_board given r cubes' chained stopped) (relit_self (circuit_in given)) verdict settled

        settled_as : settled_fields own ≡ settled_of (circuit_in given) (cube_at (circuit_in given) 16) r.cubes r.back
        unfolding circuit_in
        settled_as = own_settled given r cubes' chained stopped counts table (own_board given r cubes' chained stopped) (relit_self (circuit_in given)) verdict settled

        pub run_stopped : opening r.cubes r.back q.settled
            ++ (rows Row.Lamp 0 (take counts.lamps (unpack (verdicts counts) verdict')) ++ (rows Row.Bad 0 (drop counts.lamps (unpack (verdicts counts) verdict')) ++ rows Row.Latch 0 (unpack counts.latches settled')))
            ≡ of_run run_report (record { counts = counts; words = table })
        unfolding run_report stop_report circuit_in
        run_stopped =
            rw (chain_stopped counts table accepts cubes c chained run_report stopped, literals_counted counts table, verdict_as, settled_is own q verdict' settled' judged never_refused, count_is own q verdict' settled' judged never_refused, settled_as)

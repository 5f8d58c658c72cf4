-- The cubes that a chain leaves, closed or ended, sent with their table and their number, are accepted, and the verdict is the judge's. Assumes nothing.
use mathlib.Core.Path.{◌≡◌, sym, ◌∙◌}
use mathlib.Core.List.{List}
use Prim.Native.Nat.{ℕ, ◌≤◌}
use lib.ListN.{length}
use Rattle.three.specs.Record.{bytes_for, unpack}
use Rattle.circuit.specs.Refusal.{refusal}
use Rattle.circuit.specs.Table.{verdicts}
use Rattle.circuit.specs.RulesInCode.{Passed}
use Rattle.cubes.specs.declared.ChainAnswer.{ChainAnswer}
use Rattle.cubes.specs.declared.JudgeAnswer.{JudgeAnswer}
use Rattle.cubes.specs.Chain.{ChainGiven, Chained, room_in, outcome_in, circuit_in as board_in}
use Rattle.cubes.specs.Given.{cover_tests}
use Rattle.cubes.specs.Judge.{Judged, verdict_fields as judged_fields, circuit_in as judged_in, cubes_in as judged_cubes}
use Rattle.cubes.proofs.Cover.{cover_same}
use Rattle.cubes.proofs.Covering.{test_cover, cover_test, run_passes}
use Rattle.cubes.proofs.Chaining.{outcome_is, cube_is}
use Rattle.cubes.proofs.Own.{relit_self, own_board, own_given}
use Rattle.cubes.proofs.Promising.{verdict_is as judged_verdict}
use Rattle.sent.specs.declared.CoverAnswer.{CoverAnswer}
use Rattle.sent.specs.Call.{SentGiven, circuit_in, cubes_in, sent_tests, verdict_fields, Sent}
use Rattle.sent.proofs.Refusing.{sent_passes}
use Rattle.sent.proofs.Promising.{verdict_is as sent_verdict}

module _ (g : ChainGiven) (r : ChainAnswer) (cubes : List ℕ) (chained : Chained g r cubes) (closed : r.number ≡ 0) where
  -- what the chain leaves, sent with a buffer for the verdict
  abbrev pub sends : List ℕ → SentGiven
  sends lent = record { counts = g.counts; table = g.table; cubes = cubes; n = r.cubes; verdict = lent }

  module _ (lent : List ℕ) (fits : bytes_for (verdicts g.counts) ≤ length lent) where
    all_covered : Passed (cover_tests (circuit_in (sends lent)) (cubes_in (sends lent)) r.cubes)
    unfolding circuit_in cubes_in board_in outcome_in
    all_covered =
        cover_test _ _ r.cubes
        (cover_same _ _ _ r.cubes (cube_is g r cubes chained closed)
        (test_cover _ _ r.cubes (run_passes (board_in g) g.w (room_in g.counts g.cubes) r.cubes r.back (outcome_is g r cubes chained closed))))

    pub own_accepted : 0 ≡ refusal (sent_tests (sends lent))
    unfolding board_in cover_tests
    own_accepted =
        sent_passes (sends lent) (own_given g r cubes chained closed g.counts g.table (own_board g r cubes chained closed) (relit_self (board_in g))) all_covered.0 all_covered.1.0 fits

    module _ (q : CoverAnswer) (verdict' : List ℕ) (sent : Sent (sends lent) q verdict') where
      pub own_number : (q.number ≡ 0) × (q.cube ≡ 0)
      own_number = let zero_is = sent.answers ∙ sym own_accepted in (zero_is, rw zero_is at sent.names)

      -- whatever the judge leaves of the same chain
      pub own_verdict : (verdict₀ settled₀ : List ℕ) (p : JudgeAnswer) (verdict settled : List ℕ)
          → Judged (record { counts = g.counts; table = g.table; cubes = cubes; n = r.cubes; j = r.back; verdict = verdict₀; settled = settled₀ }) p verdict settled → p.number ≡ 0 → unpack (verdicts g.counts) verdict' ≡ unpack (verdicts g.counts) verdict
      unfolding board_in verdict_fields circuit_in cubes_in judged_fields judged_in judged_cubes
      own_verdict verdict₀ settled₀ p verdict settled judged done = sent_verdict (sends lent) q verdict' sent own_number.0 ∙ sym (judged_verdict _ p verdict settled judged done)

-- Marks do not count: a cover whose cubes differ in their marks alone gets the same answers. Assumes nothing.
use mathlib.Core.Path.{◌≡◌, sym, ap, ap₂, ◌∙◌}
use mathlib.Core.List.{List, ◌++◌}
use Prim.Native.Nat.{ℕ}
use Rattle.circuit.specs.Refusal.{Test, refusal}
use Rattle.circuit.specs.Table.{board_tests}
use Rattle.cubes.specs.Buffer.{Remarked}
use Rattle.cubes.specs.Given.{first_uncovered}
use Rattle.cubes.proofs.Buffered.{verdict_same}
use Rattle.cubes.proofs.Unmarked.{cube_tests_unmarked, cover_tests_same, uncovered_same}
use Rattle.sent.specs.declared.CoverAnswer.{CoverAnswer}
use Rattle.sent.specs.Call.{SentGiven, circuit_in, cubes_in, verdict_tests, sent_tests, verdict_fields, Sent}

module _ (g : SentGiven) (other : List ℕ) (alike : Remarked g.counts.latches g.n g.cubes other) where
  abbrev pub remarked : SentGiven
  remarked = record { counts = g.counts; table = g.table; cubes = other; n = g.n; verdict = g.verdict }

  tests_unmarked : sent_tests g ≡ sent_tests remarked
  unfolding sent_tests verdict_tests circuit_in cubes_in
  tests_unmarked =
      ap₂ (λ (ts us : List Test). board_tests g.counts g.table ++ (ts ++ (us ++ verdict_tests g))) (cube_tests_unmarked g.counts alike) (cover_tests_same _ _ _ g.n alike.same)

  uncovered_unmarked : first_uncovered (circuit_in g) (cubes_in g) g.n ≡ first_uncovered (circuit_in remarked) (cubes_in remarked) g.n
  unfolding circuit_in cubes_in
  uncovered_unmarked = uncovered_same _ _ _ g.n alike.same

  verdict_unmarked : verdict_fields g ≡ verdict_fields remarked
  unfolding verdict_fields circuit_in cubes_in
  verdict_unmarked = verdict_same _ _ _ g.n alike.same

  pub cover_unmarked : {r r' : CoverAnswer} {verdict verdict' : List ℕ} → Sent g r verdict → Sent remarked r' verdict'
      → (r.number ≡ r'.number) × (r.cube ≡ r'.cube) × (verdict ≡ verdict')
  cover_unmarked s t =
      let number = s.answers ∙ ap refusal tests_unmarked ∙ sym t.answers in
      (number, cc (number, uncovered_unmarked, s.names, t.names), cc (number, verdict_unmarked, s.fills_verdict, t.fills_verdict))

-- A cover of no cubes: accepted exactly where a constraint is 0 in the start. Then no execution is legal even once, and each verdict is never. Assumes nothing.
use mathlib.Core.Path.{◌≡◌, ap, ◌∙◌}
use mathlib.Core.Bool.{true, cond}
use mathlib.Core.List.{List}
use Prim.Native.Nat.{ℕ, ◌≤◌}
use native.Mathlib.Omega.{arith}
use lib.ListN.{length, replicate}
use Rattle.three.specs.Lists.{every}
use Rattle.three.specs.Value.{low}
use Rattle.three.specs.Record.{bytes_for, unpack}
use Rattle.three.proofs.Lists.{by_test, every_all}
use Rattle.circuit.specs.Refusal.{refusal}
use Rattle.circuit.specs.Table.{verdicts}
use Rattle.cubes.specs.Run.{blocked, start, verdict}
use Rattle.cubes.specs.Execution.{Execution, Lawful}
use Rattle.cubes.specs.Given.{covered, next_covered}
use Rattle.cubes.specs.GivenInCode.{given_tests}
use Rattle.cubes.proofs.Buffered.{verdicts_counted}
use Rattle.cubes.proofs.Covering.{covered_none}
use Rattle.cubes.proofs.Ending.{never_all}
use Rattle.sent.specs.declared.CoverAnswer.{CoverAnswer}
use Rattle.sent.specs.Call.{SentGiven, circuit_in, cubes_in, sent_tests, verdict_fields, Sent}
use Rattle.sent.proofs.Refusing.{start_outside, sent_passes}
use Rattle.sent.proofs.Promising.{verdict_is, promises}

module _ (g : SentGiven) (none : g.n ≡ 0) where
  start_decided : covered (circuit_in g) (cubes_in g) g.n (start (circuit_in g)) ≡ blocked (circuit_in g) (start (circuit_in g))
  start_decided = covered_none _ _ _ _ none

  nothing_follows : every g.n (next_covered (circuit_in g) (cubes_in g) g.n) ≡ true
  nothing_follows = every_all g.n _ (λ k h. absurd (omega arith))

  -- given a circuit that is run and a buffer for the verdict
  pub none_decided : 0 ≡ refusal (given_tests g.counts g.table g.cubes g.n) → bytes_for (verdicts g.counts) ≤ length g.verdict
      → cond (blocked (circuit_in g) (start (circuit_in g))) 0 17 ≡ refusal (sent_tests g)
  none_decided ok fits =
      by_test (blocked (circuit_in g) (start (circuit_in g)))
      (λ e. rw e (sent_passes g ok (start_decided ∙ e) nothing_follows fits))
      (λ e. rw e (start_outside g ok (start_decided ∙ e)))

  module _ (r : CoverAnswer) (verdict' : List ℕ) (sent : Sent g r verdict') (done : r.number ≡ 0) where
    pub none_legal : (e : Execution (circuit_in g)) → Lawful e 0 → ⊥
    none_legal e legal = let there = ((promises g r verdict' sent).covers_legal done e).stays 0 legal in absurd (omega (arith, there.below))

    pub none_never : unpack (verdicts g.counts) verdict' ≡ replicate (verdicts g.counts) low
    unfolding verdict_fields circuit_in
    none_never =
        verdict_is g r verdict' sent done
        ∙ ap (verdict (circuit_in g) (cubes_in g)) none
        ∙ never_all (circuit_in g) (cubes_in g)
        ∙ ap (λ (m : ℕ). replicate m low) (verdicts_counted g.counts g.table)

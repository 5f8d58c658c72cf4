-- The refusals of the judge in order, and what holds where none is given. Assumes nothing.
use mathlib.Core.Path.{◌≡◌}
use mathlib.Core.Bool.{true, false}
use Prim.Native.Nat.{ℕ, ◌<◌, ◌≤◌}
use native.Mathlib.Omega.{arith}
use borrow.Author.Tests.{le-leb, lt-leb}
use lib.ListN.{length}
use Rattle.three.specs.Record.{bytes_for}
use Rattle.circuit.specs.Refusal.{refusal}
use Rattle.circuit.specs.Table.{verdicts}
use Rattle.circuit.proofs.Refusals.{stops, past, none, passes}
use Rattle.cubes.specs.Given.{is_chain}
use Rattle.cubes.specs.GivenInCode.{given_tests}
use Rattle.cubes.specs.Judge.{JudgeGiven, circuit_in, cubes_in, result_tests, judge_tests}
use Rattle.cubes.proofs.Given.{given_refuses, past_given, behind_given}

module _ (g : JudgeGiven) where
  abbrev number : ℕ
  number = refusal (judge_tests g)

  pub cubes_refuse : (k : ℕ) → k ≡ refusal (given_tests g.counts g.table g.cubes g.n) → (k ≡ 0 → ⊥) → k ≡ number
  unfolding judge_tests
  cubes_refuse = given_refuses g.counts g.table g.cubes g.n _

  module _ (ok : 0 ≡ refusal (given_tests g.counts g.table g.cubes g.n)) where
    pub no_chain : is_chain (circuit_in g) (cubes_in g) g.n g.j ≡ false → 19 ≡ number
    unfolding judge_tests
    no_chain h = past_given _ _ _ _ _ ok (stops _ _ h)

    module _ (chain : is_chain (circuit_in g) (cubes_in g) g.n g.j ≡ true) where
      pub past_chain : {k : ℕ} → k ≡ refusal (result_tests g) → k ≡ number
      unfolding judge_tests
      past_chain e = past_given _ _ _ _ _ ok (past _ _ chain e)

      pub verdict_short : length g.verdict < bytes_for (verdicts g.counts) → 10 ≡ number
      unfolding result_tests
      verdict_short h = past_chain (stops _ _ (lt-leb (bytes_for (verdicts g.counts)) (length g.verdict) h))

      module _ (fits : bytes_for (verdicts g.counts) ≤ length g.verdict) where
        pub settled_short : length g.settled < bytes_for g.counts.latches → 10 ≡ number
        unfolding result_tests
        settled_short h = past_chain (past _ _ (le-leb (bytes_for (verdicts g.counts)) (length g.verdict) fits) (stops _ _ (lt-leb (bytes_for g.counts.latches) (length g.settled) h)))

        pub judge_passes : bytes_for g.counts.latches ≤ length g.settled → 0 ≡ number
        unfolding result_tests
        judge_passes h =
            past_chain (past _ _ (le-leb (bytes_for (verdicts g.counts)) (length g.verdict) fits) (past _ _ (le-leb (bytes_for g.counts.latches) (length g.settled) h) none))

  -- where none is given the cubes are a chain
  pub accepted_chain : 0 ≡ number → is_chain (circuit_in g) (cubes_in g) g.n g.j ≡ true
  unfolding judge_tests result_tests
  accepted_chain e = (passes _ (omega arith) (behind_given g.counts g.table g.cubes g.n _ e)).0

-- The refusals of a sent cover in order, and what holds where none is given. Assumes nothing.
use mathlib.Core.Path.{◌≡◌}
use mathlib.Core.Bool.{true, false}
use Prim.Native.Nat.{ℕ, ◌<◌, ◌≤◌}
use native.Mathlib.Omega.{arith}
use borrow.Author.Tests.{le-leb, lt-leb}
use lib.ListN.{length}
use Rattle.three.specs.Lists.{every}
use Rattle.three.specs.Record.{bytes_for}
use Rattle.circuit.specs.Refusal.{refusal}
use Rattle.circuit.specs.Table.{verdicts}
use Rattle.circuit.specs.RulesInCode.{Passed}
use Rattle.circuit.proofs.Refusals.{Numbered, stops, past, none, passes, none_append}
use Rattle.cubes.specs.Run.{start}
use Rattle.cubes.specs.Given.{covered, next_covered, cover_tests}
use Rattle.cubes.specs.GivenInCode.{given_tests}
use Rattle.cubes.proofs.Given.{given_refuses as refuses_given, past_given, behind_given}
use Rattle.sent.specs.Call.{SentGiven, circuit_in, cubes_in, verdict_tests, sent_tests}

module _ (g : SentGiven) where
  abbrev number : ℕ
  number = refusal (sent_tests g)

  pub given_refuses : (k : ℕ) → k ≡ refusal (given_tests g.counts g.table g.cubes g.n) → (k ≡ 0 → ⊥) → k ≡ number
  unfolding sent_tests
  given_refuses = refuses_given g.counts g.table g.cubes g.n _

  module _ (ok : 0 ≡ refusal (given_tests g.counts g.table g.cubes g.n)) where
    pub start_outside : covered (circuit_in g) (cubes_in g) g.n (start (circuit_in g)) ≡ false → 17 ≡ number
    unfolding sent_tests cover_tests
    start_outside h = past_given _ _ _ _ _ ok (stops _ _ h)

    module _ (starts : covered (circuit_in g) (cubes_in g) g.n (start (circuit_in g)) ≡ true) where
      pub next_outside : every g.n (next_covered (circuit_in g) (cubes_in g) g.n) ≡ false → 18 ≡ number
      unfolding sent_tests cover_tests
      next_outside h = past_given _ _ _ _ _ ok (past _ _ starts (stops _ _ h))

      module _ (follows : every g.n (next_covered (circuit_in g) (cubes_in g) g.n) ≡ true) where
        pub verdict_short : length g.verdict < bytes_for (verdicts g.counts) → 10 ≡ number
        unfolding sent_tests cover_tests verdict_tests
        verdict_short h = past_given _ _ _ _ _ ok (past _ _ starts (past _ _ follows (stops _ _ (lt-leb (bytes_for (verdicts g.counts)) (length g.verdict) h))))

        pub sent_passes : bytes_for (verdicts g.counts) ≤ length g.verdict → 0 ≡ number
        unfolding sent_tests cover_tests verdict_tests
        sent_passes h = past_given _ _ _ _ _ ok (past _ _ starts (past _ _ follows (past _ _ (le-leb (bytes_for (verdicts g.counts)) (length g.verdict) h) none)))

  covers_numbered : Numbered (cover_tests (circuit_in g) (cubes_in g) g.n)
  unfolding cover_tests
  covers_numbered = omega arith

  -- where none is given the cubes are a cover
  pub accepted_covers : 0 ≡ number → Passed (cover_tests (circuit_in g) (cubes_in g) g.n)
  unfolding sent_tests
  accepted_covers e = passes _ covers_numbered (none_append (cover_tests (circuit_in g) (cubes_in g) g.n) _ covers_numbered (behind_given g.counts g.table g.cubes g.n _ e)).0

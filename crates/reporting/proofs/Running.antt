-- What is said of a circuit's run, from what the chain answers with a buffer of 65,536 bytes. Assumes nothing.
use mathlib.Core.Path.{◌≡◌, refl, sym, ap₂, ◌∙◌}
use mathlib.Core.List.{List}
use Prim.Native.Nat.{ℕ, zero, suc, ◌/◌}
use native.Mathlib.Omega.{arith}
use lib.ListN.{length}
use Rattle.std.proofs.Common.{rules}
use Rattle.std.specs.Prelude.{Result, Ok, Err, IsOk}
use Rattle.circuit.specs.declared.Counts.{Counts}
use Rattle.circuit.specs.declared.Refusal.{Refusal}
use Rattle.circuit.specs.Answer.{answered}
use Rattle.circuit.specs.Refusal.{refusal, left_by}
use Rattle.circuit.specs.Table.{lamp_tests, circuit_tests}
use Rattle.circuit.specs.RulesInCode.{Bounded}
use Rattle.circuit.proofs.Answering.{numbered}
use Rattle.circuit.proofs.Refusals.{refused_old}
use Rattle.circuit.proofs.Legality.{legal, board_decides}
use Rattle.cubes.specs.declared.ChainAnswer.{ChainAnswer}
use Rattle.cubes.specs.declared.ChainRefusal.{ChainRefusal}
use Rattle.cubes.specs.declared.ChainRefusal.TheVariants.{Refused, Full}
use Rattle.cubes.specs.Answers.{chain_answer}
use Rattle.cubes.specs.Buffer.{cube_bytes}
use Rattle.cubes.proofs.StoredCube.{few_bytes}
use Rattle.cubes.specs.Run.{full, stops, run}
use Rattle.cubes.specs.Chain.{room_in, ChainGiven, refused_by, circuit_in, outcome_in, Chained}
use Rattle.cubes.proofs.Chaining.{says, outcome_is, only_full}
use Rattle.chained.proofs.Refusing.{board_alone}
use Rattle.reporting.specs.Reporting.{Saying, refusing, of_run}

-- what the chain refuses has a number
pub chain_numbered : (e : ChainRefusal) → (chain_answer (Err e)).number ≡ 0 → ⊥
chain_numbered (Refused r) = numbered r
chain_numbered (Full n) = λ h. omega arith

-- a call whose number is 0 answers
pub answers_ok : {A : Type 0} (r : Result A Refusal) → answered r ≡ 0 → IsOk r
answers_ok (Ok a) h = search rules
answers_ok (Err e) h = absurd (numbered e h)

module _ (counts : Counts) (table : List ℕ) (accepts : 0 ≡ refusal (circuit_tests counts table)) (cubes : List ℕ) (c : length cubes ≡ 65536) where
  abbrev pub given : ChainGiven
  given = record { counts = counts; table = table; w = 16; cubes = cubes }

  bounded : Bounded counts
  bounded = (legal counts table accepts).bounded

  -- before 15 the chain is refused for want of a lamp or bad state, or not at all
  refused_is : refused_by given ≡ refusal (lamp_tests counts)
  unfolding refused_by
  refused_is = sym (board_decides counts table accepts ∙ board_alone counts table 16 (length cubes) (omega arith) (omega (arith, few_bytes bounded.latches, c)) (omega (arith, c)))

  -- what is said is that refusal, or what is said of the run's outcome
  report_is : (say : Saying) → of_run say (record { counts = counts; words = table }) ≡ left_by (refused_by given) (say (circuit_in given) (outcome_in given)) (refusing (refused_by given))
  unfolding of_run outcome_in room_in circuit_in
  report_is say =
      ap₂ (λ (k n : ℕ). left_by k (say (circuit_in given) (run (circuit_in given) 16 (n / cube_bytes counts.latches))) (refusing k)) (sym refused_is) (sym c)

  module _ {r : ChainAnswer} {cubes' : List ℕ} (chained : Chained given r cubes') where
    number_is : {k : ℕ} → refused_by given ≡ suc k → r.number ≡ suc k
    number_is e = chained.answers ∙ sym (refused_old (refused_by given) _ _ (λ z. omega (arith, e))) ∙ e

    -- a chain that is refused here gives 16, the number of the lamps' test, or 15
    pub chain_refused : (say : Saying) → say (circuit_in given) full ≡ refusing 15 → (r.number ≡ 0 → ⊥) → refusing r.number ≡ of_run say (record { counts = counts; words = table })
    unfolding left_by
    chain_refused say fifteen h = go (refused_by given) refl
      where
        go : (k : ℕ) → refused_by given ≡ k → refusing r.number ≡ of_run say (record { counts = counts; words = table })
        go zero ok = let is = only_full given r cubes' chained ok h in rw (report_is say, ok, is.0, is.1) (sym fifteen)
        go (suc k) e = rw (report_is say, e, number_is e)

    -- one that is not has stopped, closed or ended
    pub chain_stopped : (say : Saying) → r.number ≡ 0 → of_run say (record { counts = counts; words = table }) ≡ say (circuit_in given) (stops r.cubes r.back)
    unfolding left_by
    chain_stopped say stopped = rw (report_is say, (says given r cubes' chained stopped).0, outcome_is given r cubes' chained stopped)

-- The beginners' run: what it answers and leaves where it is refused, and where its chain is made. Assumes nothing.
use mathlib.Core.Path.{◌≡◌, sym, ap, ◌∙◌}
use mathlib.Core.Bool.{true, false≢true}
use mathlib.Core.List.{List}
use Rattle.std.proofs.Common.{rules}
use Prim.Native.Nat.{ℕ}
use lib.ListN.{length}
use Rattle.three.specs.Lists.{over}
use Rattle.circuit.specs.Refusal.{refusal}
use Rattle.circuit.proofs.Refusals.{refused_old, accepted_new}
use Rattle.std.specs.Prelude.{Result, Ok, Err, IsOk, IsErrAnd}
use Rattle.std.proofs.lemmas.Result.{err_from_is_err_and}
use Rattle.circuit.specs.declared.Refusal.{Refusal}
use Rattle.circuit.specs.Answer.{number_of}
use Rattle.circuit.proofs.Answering.{numbered}
use Rattle.chain.specs.ChainInCode.{made_stopped, made_cubes, made_back, ChainMade}
use Rattle.cubes.specs.declared.Chain.{Chain}
use Rattle.cubes.specs.declared.NoRoom.{NoRoom}
use Rattle.cubes.specs.Answers.{roomy_answer}
use Rattle.cubes.specs.OutcomesInCode.{has_stopped}
use Rattle.beginners.proofs.Closing.{always_closes}
use Rattle.cubes.specs.Run.{cube_at}
use Rattle.cubes.specs.Buffer.{pack_cubes, marked}
use Rattle.cubes.specs.Chain.{circuit_in, outcome_in, cubes_in, back_in}
use Rattle.beginners.specs.Calls.{chain_beginners_tests, BoardGiven, refused_by, unwidened, ChainedBeginners}

-- a chain that has stopped was made
made_ok : (r : Result Chain NoRoom) → made_stopped r ≡ true → IsOk r
made_ok (Ok a) h = search rules
made_ok (Err e) h = absurd (false≢true h)

module _ (g : BoardGiven) where
  refused : {k : ℕ} → k ≡ refusal (chain_beginners_tests g.counts g.table (length g.cubes)) → (k ≡ 0 → ⊥) → ChainedBeginners g (record { number = k; cubes = 0; back = 0 }) g.cubes
  unfolding refused_by
  refused {k} e h =
      let not_passed : (refused_by g ≡ 0 → ⊥) = λ z. h (e ∙ z) in
      record {
        answers = e;
        counts = refused_old (refused_by g) _ _ not_passed;
        goes_back = refused_old (refused_by g) _ _ not_passed;
        fills_cubes = refused_old (refused_by g) _ _ not_passed;
      }

  -- `?` answers the refusal e
  pub run_refused : (r : Result Chain Refusal) (e : Refusal) → IsErrAnd r (λ x. x ≡ e) → number_of e ≡ refusal (chain_beginners_tests g.counts g.table (length g.cubes))
      → ChainedBeginners g (roomy_answer r) g.cubes
  run_refused r e made same =
      let (x, was, is) = err_from_is_err_and r made in
      rw (was, is) (refused same (numbered e))

  module _ (none : 0 ≡ refusal (chain_beginners_tests g.counts g.table (length g.cubes))) (r : Result Chain NoRoom) (cubes : List ℕ) (made : ChainMade g.counts g.table 0 g.cubes r cubes) where
    ok : refused_by g ≡ 0
    unfolding refused_by
    ok = sym none

    filled : cubes ≡ over (pack_cubes (marked 0) (cube_at (circuit_in (unwidened g)) 0) (cubes_in (unwidened g))) g.cubes
    unfolding outcome_in circuit_in cubes_in
    filled = made.fills ∙ ap (λ (n : ℕ). over (pack_cubes (marked 0) (cube_at (circuit_in (unwidened g)) 0) n) g.cubes) made.counts

    pub run_made : ChainedBeginners g (record { number = 0; cubes = made_cubes r; back = made_back r }) cubes
    unfolding outcome_in circuit_in cubes_in back_in
    run_made = record {
      answers = sym ok;
      counts = made.counts ∙ accepted_new (refused_by g) _ _ ok;
      goes_back = made.goes_back ∙ accepted_new (refused_by g) _ _ ok;
      fills_cubes = filled ∙ accepted_new (refused_by g) _ _ ok;
    }

    -- there is room for every cube
    pub run_stops : made_stopped r ≡ true
    unfolding outcome_in circuit_in has_stopped
    run_stops = made.closes ∙ ap has_stopped ((always_closes g _ cubes run_made).closes ok)

    pub run_ok : IsOk r
    run_ok = made_ok r run_stops

-- The public chain: what it answers and leaves where it is refused, where there is no room for a cube more, and where it stops, closed or ended. Assumes nothing.
use mathlib.Core.Path.{◌≡◌, sym, ap, ◌∙◌}
use mathlib.Core.List.{List}
use Prim.Native.Nat.{ℕ}
use lib.ListN.{length}
use Rattle.three.specs.Lists.{over}
use Rattle.circuit.specs.Refusal.{refusal}
use Rattle.circuit.proofs.Refusals.{refused_old, accepted_new}
use Rattle.std.specs.Prelude.{Result, Ok, Err, IsErrAnd}
use Rattle.std.proofs.lemmas.Result.{err_from_is_err_and}
use Rattle.circuit.specs.declared.Refusal.{Refusal}
use Rattle.circuit.specs.Answer.{number_of}
use Rattle.circuit.proofs.Answering.{numbered}
use Rattle.cubes.specs.declared.Chain.{Chain}
use Rattle.cubes.specs.declared.NoRoom.{NoRoom}
use Rattle.cubes.specs.declared.ChainRefusal.{ChainRefusal}
use Rattle.cubes.specs.declared.ChainRefusal.TheVariants.{Refused, Full}
use Rattle.cubes.specs.Answers.{chain_answer}
use Rattle.chain.specs.ChainInCode.{ChainMade}
use Rattle.cubes.specs.Run.{cube_at}
use Rattle.cubes.specs.Buffer.{pack_cubes, marked}
use Rattle.cubes.specs.Chain.{chain_tests, ChainGiven, refused_by, circuit_in, outcome_in, cubes_in, back_in, Chained}
use Rattle.cubes.proofs.Buffered.{full_is, stopped_number}

-- `?` answers x
turned : (r : Result Chain ChainRefusal) (x : ChainRefusal) → IsErrAnd r (λ e. e ≡ x) → chain_answer r ≡ chain_answer (Err x)
turned r x made = let (e, was, is) = err_from_is_err_and r made in ap chain_answer (was ∙ ap Err is)

module _ (g : ChainGiven) where
  refused : {k : ℕ} → k ≡ refusal (chain_tests g.counts g.table g.w (length g.cubes)) → (k ≡ 0 → ⊥) → Chained g (record { number = k; cubes = 0; back = 0 }) g.cubes
  unfolding refused_by
  refused {k} e h =
      let not_passed : (refused_by g ≡ 0 → ⊥) = λ z. h (e ∙ z) in
      record {
        answers = e ∙ refused_old (refused_by g) _ _ not_passed;
        counts = refused_old (refused_by g) _ _ not_passed;
        goes_back = refused_old (refused_by g) _ _ not_passed;
        fills_cubes = refused_old (refused_by g) _ _ not_passed;
      }

  pub chain_refused : (r : Result Chain ChainRefusal) (e : Refusal) → IsErrAnd r (λ x. x ≡ Refused e) → number_of e ≡ refusal (chain_tests g.counts g.table g.w (length g.cubes))
      → Chained g (chain_answer r) g.cubes
  chain_refused r e made same = rw (turned r (Refused e) made) (refused same (numbered e))

  module _ (none : 0 ≡ refusal (chain_tests g.counts g.table g.w (length g.cubes))) (cubes : List ℕ) where
    ok : refused_by g ≡ 0
    unfolding refused_by
    ok = sym none

    filled : (r : Result Chain NoRoom) → ChainMade g.counts g.table g.w g.cubes r cubes → cubes ≡ over (pack_cubes (marked g.w) (cube_at (circuit_in g) g.w) (cubes_in g)) g.cubes
    unfolding outcome_in circuit_in cubes_in
    filled r made = made.fills ∙ ap (λ (n : ℕ). over (pack_cubes (marked g.w) (cube_at (circuit_in g) g.w) n) g.cubes) made.counts

    full : (f : NoRoom) → ChainMade g.counts g.table g.w g.cubes (Err f) cubes → Chained g (chain_answer (Err (Full f))) cubes
    unfolding outcome_in circuit_in cubes_in back_in
    full f made =
        let is_full = full_is (outcome_in g) (sym made.closes) in
        record {
          answers = is_full.0 ∙ accepted_new (refused_by g) _ _ ok;
          counts = made.counts ∙ accepted_new (refused_by g) _ _ ok;
          goes_back = is_full.1 ∙ accepted_new (refused_by g) _ _ ok;
          fills_cubes = filled (Err f) made ∙ accepted_new (refused_by g) _ _ ok;
        }

    pub chain_full : (r : Result Chain ChainRefusal) (f : NoRoom) → IsErrAnd r (λ x. x ≡ Full f) → ChainMade g.counts g.table g.w g.cubes (Err f) cubes → Chained g (chain_answer r) cubes
    chain_full r f answer made = rw (turned r (Full f) answer) (full f made)

    pub chain_stopped : (r : Chain) → ChainMade g.counts g.table g.w g.cubes (Ok r) cubes → Chained g (chain_answer (Ok r)) cubes
    unfolding outcome_in circuit_in cubes_in back_in
    chain_stopped r made = record {
      answers = stopped_number (outcome_in g) (sym made.closes) ∙ accepted_new (refused_by g) _ _ ok;
      counts = made.counts ∙ accepted_new (refused_by g) _ _ ok;
      goes_back = made.goes_back ∙ accepted_new (refused_by g) _ _ ok;
      fills_cubes = filled (Ok r) made ∙ accepted_new (refused_by g) _ _ ok;
    }

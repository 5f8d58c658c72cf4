-- The promises speak of legal executions alone. Under the assumption of `Assumed`, which never holds, the run ends with no cube, every verdict is never, and no
-- execution is legal at tick 0. The lamp is lit at every tick all the same, so of all executions its verdict would be wrong. Assumes nothing.
use mathlib.Core.Path.{◌≡◌, refl, sym, ap, ◌∙◌}
use mathlib.Core.Bool.{Bool, true, false, true≢false}
use mathlib.Core.List.{List, [], ◌∷◌}
use Prim.Native.Nat.{ℕ}
use native.Mathlib.Omega.{arith}
use lib.ListN.{get_or}
use Rattle.three.specs.Lists.{tabulate, over}
use Rattle.three.specs.Value.{unknown, low, known, decode, boolean}
use Rattle.three.specs.Record.{pairs, pair_at, unpack}
use Rattle.circuit.specs.Circuit.{signed, value, pass, settle, readings}
use Rattle.circuit.specs.Table.{circuit_of}
use Rattle.cubes.specs.Chain.{circuit_in}
use Rattle.cubes.specs.Execution.{Execution, read_after, lamps_after, Lawful}
use Rattle.cubes.proofs.Chaining.{closing}
use Rattle.witness.specs.Answer.{RunAnswer, chains, Runs, answer_in, Sized, zeroed}
use Rattle.witness.specs.Computed.{computed}
use Rattle.witness.specs.Assumed.{counts, words, circuit, assumed, ended}
use Rattle.witness.proofs.Answers.{Answers, runs_answers, answer_zeroed, run_chained}

ended_answer : answer_in (zeroed counts words 0 64) ≡ ended
unfolding computed
ended_answer = refl

pub always_lit : (e : Execution circuit) (t : ℕ) → lamps_after e t ≡ true ∷ []
unfolding read_after readings settle pass value signed boolean circuit_of tabulate
always_lit e t = refl

module _ {cubes₀ verdict₀ settled₀ : List ℕ} (sized : Sized 64 (assumed cubes₀ verdict₀ settled₀))
    {r : RunAnswer} {cubes verdict settled : List ℕ} (runs : Runs (assumed cubes₀ verdict₀ settled₀) r cubes verdict settled) where
  pub as_ended : Answers (assumed cubes₀ verdict₀ settled₀) r cubes verdict settled ended
  as_ended = rw (answer_zeroed 64 (assumed cubes₀ verdict₀ settled₀) sized ∙ ended_answer) at (runs_answers runs)

  pub all_never : unpack 2 verdict ≡ low ∷ low ∷ []
  unfolding unpack tabulate pair_at pairs decode over
  all_never = ap (unpack 2) as_ended.verdict

  -- by the chain's promise: it has ended, with no cube
  pub none_legal : (e : Execution circuit) → Lawful e 0 → ⊥
  unfolding circuit_in
  none_legal e legal =
      let promise = closing (chains (assumed cubes₀ verdict₀ settled₀)) _ _ runs.chained in
      promise.ended (run_chained runs as_ended.number) (as_ended.j ∙ sym as_ended.n) e (λ u h. legal u (omega (arith, as_ended.n)))

  -- a verdict that spoke of every execution would be none of theirs
  pub not_of_all : (e : Execution circuit) → ((i : ℕ) (v : Bool) → get_or (unpack 1 verdict) i unknown ≡ known v → (t : ℕ) → get_or (lamps_after e t) i false ≡ v) → ⊥
  unfolding unpack tabulate pair_at pairs decode over known
  not_of_all e says =
      true≢false (ap (λ (l : List Bool). get_or l 0 false) (sym (always_lit e 0)) ∙ says 0 false (ap (λ (v : List ℕ). get_or (unpack 1 v) 0 unknown) as_ended.verdict) 0)

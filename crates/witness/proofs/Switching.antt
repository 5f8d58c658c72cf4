-- The promises of the judge speak of every switch sequence, also of two that differ at one tick alone. On the circuit of `Switched` promises
-- of constant switch settings would not do: under each of them the lamp is dark for ever, and yet no chain that passes may call it never. Assumes nothing.
use mathlib.Core.Path.{◌≡◌, refl, sym, ap, ap₂, ◌∙◌}
use mathlib.Core.Bool.{Bool, true, false, ◌&&◌, not, false≢true, true≢false}
use mathlib.Core.List.{List, [], ◌∷◌}
use Prim.Native.Nat.{ℕ, zero, suc}
use native.Mathlib.Omega.{arith}
use borrow.Author.Tests.{eq-eqb, ne_eqb}
use lib.ListN.{get_or}
use Rattle.three.specs.Lists.{tabulate}
use Rattle.three.specs.Value.{boolean, unknown, known}
use Rattle.three.specs.Record.{unpack}
use Rattle.circuit.specs.Circuit.{signed, value, pass, settle, readings}
use Rattle.circuit.specs.Table.{circuit_of}
use Rattle.cubes.specs.Execution.{Execution, settings, state_after, read_after, lamps_after}
use Rattle.cubes.specs.declared.JudgeAnswer.{JudgeAnswer}
use Rattle.cubes.specs.Judge.{circuit_in}
use Rattle.cubes.specs.Promise.{Covered, Promises}
use Rattle.witness.specs.Answer.{RunGiven, RunAnswer, Runs, Answer, answer_in, Sized, zeroed}
use Rattle.witness.specs.Computed.{computed}
use Rattle.witness.specs.Switched.{counts, words, circuit, given, under, always, once}
use Rattle.witness.proofs.Answers.{runs_answers, answer_zeroed}

-- ---- the two sequences: all off, and on at tick t alone

pub alike_elsewhere : (t tick : ℕ) → (tick ≡ t → ⊥) → settings (always false) tick ≡ settings (once t) tick
unfolding settings circuit_of tabulate under
alike_elsewhere t tick other = ap (λ (b : Bool). b ∷ []) (sym (ne_eqb tick t other))

-- ---- what the latch and the lamp do

module _ (e : Execution circuit) (t : ℕ) where
  -- the latch has what the switch was
  latch_follows : state_after e (suc t) ≡ e.switches t 0 ∷ []
  unfolding state_after settings readings settle pass value signed boolean circuit_of tabulate
  latch_follows = refl

  -- the lamp is on where the switch was on and is off
  lamp_follows : lamps_after e (suc t) ≡ (e.switches t 0 && not (e.switches (suc t) 0)) ∷ []
  unfolding read_after state_after settings readings settle pass value signed boolean circuit_of tabulate
  lamp_follows = refl

-- after tick t their states differ
pub states_differ : (t : ℕ) → state_after (always false) (suc t) ≡ state_after (once t) (suc t) → ⊥
unfolding under
states_differ t e =
    let same = sym (latch_follows (always false) t) ∙ e ∙ latch_follows (once t) t in
    false≢true (ap (λ (l : List Bool). get_or l 0 false) same ∙ eq-eqb t t refl)

-- ---- constant settings leave the lamp dark, and one change lights it

pub off_with_inverse : (v : Bool) → (v && not v) ≡ false
off_with_inverse true = refl
off_with_inverse false = refl

pub dark_when_constant : (v : Bool) (t : ℕ) → lamps_after (always v) t ≡ false ∷ []
unfolding read_after state_after settings readings settle pass value signed boolean circuit_of tabulate under
dark_when_constant v zero = refl
dark_when_constant v (suc t) = lamp_follows (always v) t ∙ ap (λ (b : Bool). b ∷ []) (off_with_inverse v)

pub lit_after_once : (t : ℕ) → lamps_after (once t) (suc t) ≡ true ∷ []
unfolding under
lit_after_once t =
    lamp_follows (once t) t ∙ ap₂ (λ (a b : Bool). (a && not b) ∷ []) (eq-eqb t t refl) (ne_eqb (suc t) t (λ e. omega arith))

-- ---- the promises

-- an execution of the circuit is one of what the judge is given
unfoldable pub covered : (cubes : List ℕ) (n j : ℕ) (verdict₀ settled₀ verdict settled : List ℕ) → Execution circuit → Type 0
unfolding circuit_in
covered cubes n j verdict₀ settled₀ verdict settled e = Covered (given cubes n j verdict₀ settled₀) verdict settled e

-- two executions that differ, under switch settings that differ at tick t alone, and both covered
pub record Two (cubes : List ℕ) (n j : ℕ) (verdict₀ settled₀ verdict settled : List ℕ) (t : ℕ) : Type 0 where
  pub alike : (tick : ℕ) → (tick ≡ t → ⊥) → settings (always false) tick ≡ settings (once t) tick
  pub differ : state_after (always false) (suc t) ≡ state_after (once t) (suc t) → ⊥
  pub never_on : covered cubes n j verdict₀ settled₀ verdict settled (always false)
  pub on_once : covered cubes n j verdict₀ settled₀ verdict settled (once t)

module _ {cubes : List ℕ} {n j : ℕ} {verdict₀ settled₀ : List ℕ} {r : JudgeAnswer} {verdict settled : List ℕ}
    (promises : Promises (given cubes n j verdict₀ settled₀) verdict settled r) (done : r.number ≡ 0) where
  pub both_covered : (t : ℕ) → Two cubes n j verdict₀ settled₀ verdict settled t
  unfolding covered circuit_in
  both_covered t = record {
    alike = alike_elsewhere t;
    differ = states_differ t;
    never_on = promises.covers done refl (always false);
    on_once = promises.covers done refl (once t);
  }

  -- the lamp that is dark under all constant settings is not judged never
  pub not_never : get_or (unpack 1 verdict) 0 unknown ≡ known false → ⊥
  unfolding circuit_in
  not_never e =
      true≢false (ap (λ (l : List Bool). get_or l 0 false) (sym (lit_after_once 0)) ∙ (promises.covers done refl (once 0)).judged 0 false e 1)

-- ---- and a run of the circuit is closed and accepted, so that the above speaks of something

circuit_answer : (answer_in (zeroed counts words 0 64)).number ≡ 0
unfolding computed
circuit_answer = refl

abbrev ran : List ℕ → List ℕ → List ℕ → RunGiven
ran cubes verdict settled = record { counts = counts; table = words; w = 0; cubes = cubes; verdict = verdict; settled = settled }

pub run_closes : {cubes₀ verdict₀ settled₀ : List ℕ} → Sized 64 (ran cubes₀ verdict₀ settled₀)
    → {r : RunAnswer} {cubes verdict settled : List ℕ} → Runs (ran cubes₀ verdict₀ settled₀) r cubes verdict settled → r.number ≡ 0
run_closes {cubes₀} {verdict₀} {settled₀} sized runs =
    (runs_answers runs).number ∙ ap (λ (a : Answer). a.number) (answer_zeroed 64 (ran cubes₀ verdict₀ settled₀) sized) ∙ circuit_answer

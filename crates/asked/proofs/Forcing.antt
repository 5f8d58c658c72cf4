-- The answer's fields: from them alone the value that was asked about is the same, and they only forget. Assumes nothing.
use mathlib.Core.Path.{◌≡◌, refl, ◌∙◌}
use mathlib.Core.Bool.{Bool, true, false, not}
use Prim.Native.Nat.{ℕ, suc, ◌+◌, ◌/◌, ◌<◌}
use native.Mathlib.Omega.{arith}
use lib.ListN.{length, get_or}
use Rattle.three.specs.Value.{Three, unknown, code, ternary}
use Rattle.three.specs.Cube.{Cube, alike, allows, subsumes, blank}
use Rattle.three.proofs.Lists.{length_tabulate, get_or_tabulate, every_all}
use Rattle.three.proofs.Fields.{allows_self}
use Rattle.three.proofs.Merge.{subsumes_every}
use Rattle.circuit.specs.Circuit.{Circuit, value}
use Rattle.circuit.proofs.Fixed.{Falling}
use Rattle.circuit.proofs.LiteralValue.{value_unknown}
use Rattle.asked.specs.Follow.{followed, reaches, gate_at, latch_variable, first_gate, values_in, forces, forcing}
use Rattle.asked.specs.AskedInCode.{Asked}
use Rattle.asked.proofs.Reaching.{Falls, asked_reaches, gates_fall}
use Rattle.asked.proofs.Same.{falling_gates, value_same, same_below}

-- ---- a field that is kept, or forgotten

forces_asked : (c : Circuit) (state : Cube) (x i : ℕ) → reaches (first_gate c) (gate_at c) (values_in c state) (x / 2) (x / 2) (latch_variable c i) ≡ true → forces c state x i ≡ true
unfolding forces
forces_asked c state x i e = e

unblanked : (v : Three) {t : Bool} → t ≡ true → blank v (not t) ≡ v
unfolding blank
unblanked v e = rw e

blank_allows : (v : Three) (t : Bool) → allows (blank v t) v ≡ true
unfolding blank allows alike code
blank_allows v true = refl
blank_allows v false = allows_self v

-- ---- all fields

module _ (c : Circuit) (falling : Falling (first_gate c) c.gates) (state : Cube) (sized : length state ≡ length c.latches) (x : ℕ) where
  pub length_forcing : length (forcing c state x) ≡ length state
  unfolding forcing
  length_forcing = length_tabulate (length state) _

  forcing_at : (i : ℕ) → i < length state → get_or (forcing c state x) i unknown ≡ blank (get_or state i unknown) (not (forces c state x i))
  unfolding forcing
  forcing_at i h = get_or_tabulate (length state) _ i unknown h

  -- from the answer alone a literal whose value is known has the same value
  pub same_value : x / 2 < first_gate c + length c.gates → (value ternary (values_in c state) x ≡ unknown → ⊥) → value ternary (values_in c (forcing c state x)) x ≡ value ternary (values_in c state) x
  same_value b known =
      value_same c falling state (forcing c state x) sized (length_forcing ∙ sized) (x / 2) kept x
      (same_below c falling state (forcing c state x) sized (length_forcing ∙ sized) (x / 2) kept (suc (x / 2)) (x / 2) (omega arith) b (λ u a. a) (λ e. known (value_unknown (values_in c state) x e)))
    where
      falls : Falls (followed (first_gate c) (gate_at c) (values_in c state)) (first_gate c + length c.gates)
      falls = gates_fall (first_gate c) (length c.gates) (gate_at c) (values_in c state) (falling_gates c falling)

      kept : (i : ℕ) → i < length c.latches → Asked (followed (first_gate c) (gate_at c) (values_in c state)) (x / 2) (latch_variable c i) → get_or (forcing c state x) i unknown ≡ get_or state i unknown
      kept i h a = forcing_at i (omega arith) ∙ unblanked (get_or state i unknown) (forces_asked c state x i (asked_reaches (first_gate c) (gate_at c) (values_in c state) (first_gate c + length c.gates) falls (x / 2) (x / 2) (latch_variable c i) (omega arith) b a))

  -- the answer only forgets
  pub forgets : subsumes (forcing c state x) state ≡ true
  forgets =
      subsumes_every (forcing c state x) state length_forcing
      ∙ every_all (length (forcing c state x)) _ (λ i h. rw (forcing_at i (omega (arith, length_forcing))) (blank_allows (get_or state i unknown) (not (forces c state x i))))

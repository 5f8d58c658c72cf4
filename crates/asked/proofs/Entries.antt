-- The values of all variables, all switches X: the constant's, a switch's, a latch's and a gate's. Assumes nothing.
use mathlib.Core.Path.{◌≡◌, ap, ◌∙◌}
use mathlib.Core.List.{List, ◌∷◌, ◌++◌}
use Prim.Native.Nat.{ℕ, suc, ◌+◌, ◌<◌}
use native.Mathlib.Omega.{arith}
use lib.ListN.{length, get_or, replicate, length-append, length-replicate, get_or-replicate, get_or-append}
use lib.Seq.{get_or-append-add}
use Rattle.three.specs.Value.{Three, unknown, low, both, ternary}
use Rattle.three.specs.Cube.{Cube}
use Rattle.three.proofs.Lists.{get_or_any}
use Rattle.circuit.specs.Circuit.{Circuit, value, settle}
use Rattle.circuit.proofs.Fixed.{Falling, entry_front, pass_at}
use Rattle.cubes.specs.Run.{switches_unknown}
use Rattle.asked.specs.Follow.{gate_at, latch_variable, first_gate, values_in}

module _ (c : Circuit) (state : Cube) (sized : length state ≡ length c.latches) where
  abbrev front : List Three
  front = low ∷ (replicate c.inputs unknown ++ state)

  length_front : length front ≡ first_gate c
  length_front = omega (arith, length-append (replicate c.inputs unknown) state, length-replicate c.inputs unknown)

  -- what stands before the gates
  front_entry : (v : ℕ) → v < first_gate c → get_or (values_in c state) v low ≡ get_or front v low
  unfolding values_in settle ternary switches_unknown
  front_entry v h = entry_front ternary front c.gates v low (omega (arith, length_front))

  pub constant_entry : get_or (values_in c state) 0 low ≡ low
  constant_entry = front_entry 0 (omega arith)

  pub switch_entry : (i : ℕ) → i < c.inputs → get_or (values_in c state) (suc i) low ≡ unknown
  switch_entry i h =
      front_entry (suc i) (omega arith)
      ∙ get_or-append (replicate c.inputs unknown) state low i (omega (arith, length-replicate c.inputs unknown))
      ∙ get_or-replicate c.inputs i unknown low h

  pub latch_entry : (i : ℕ) → i < length c.latches → get_or (values_in c state) (latch_variable c i) low ≡ get_or state i unknown
  latch_entry i h =
      let place : latch_variable c i ≡ suc (length (replicate c.inputs unknown) + i) = omega (arith, length-replicate c.inputs unknown) in
      front_entry (latch_variable c i) (omega arith)
      ∙ ap (λ (v : ℕ). get_or front v low) place
      ∙ get_or-append-add (replicate c.inputs unknown) state i low
      ∙ get_or_any state i low unknown (omega arith)

  pub gate_entry : Falling (first_gate c) c.gates → (i : ℕ) → i < length c.gates
      → get_or (values_in c state) (first_gate c + i) low ≡ both (value ternary (values_in c state) (gate_at c i).left) (value ternary (values_in c state) (gate_at c i).right)
  unfolding values_in settle ternary switches_unknown gate_at
  gate_entry f i h = rw (← length_front) (pass_at ternary front c.gates i _ low (rw length_front f) h)

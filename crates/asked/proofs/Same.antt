-- In two states that are alike in the latches which are reached, what was asked has the same value. Assumes nothing.
use mathlib.Core.Path.{◌≡◌, sym, ap, ap₂, ◌∙◌}
use mathlib.Core.Bool.{true, false}
use mathlib.Core.List.{List, [], ◌∷◌}
use Prim.Native.Nat.{ℕ, zero, suc, ◌+◌, ◌*◌, ◌-◌, ◌/◌, ◌%◌, ◌<◌, ◌≤◌}
use native.Mathlib.Nat.{not-suc-le-zero}
use native.Mathlib.Omega.{arith}
use borrow.Author.Tests.{ltb-true, ltb-false}
use lib.Dec.{ltb}
use lib.ListN.{length, get_or}
use Rattle.three.specs.Value.{Three, unknown, low, high, both, ternary}
use Rattle.three.specs.Cube.{Cube, alike}
use Rattle.three.proofs.Lists.{by_test}
use Rattle.three.proofs.Fields.{alike_same}
use Rattle.three.proofs.GateRule.{both_high, both_low, low_second, three_values, low_known, high_known}
use Rattle.circuit.specs.Circuit.{Circuit, signed, value}
use Rattle.circuit.proofs.Fixed.{Falling, falling_at}
use Rattle.circuit.proofs.LiteralValue.{value_unknown}
use Rattle.asked.specs.Follow.{followed, gate_at, latch_variable, first_gate, values_in}
use Rattle.asked.specs.AskedInCode.{Leads, Asked, here, on}
use Rattle.asked.proofs.Leading.{low_left, low_right, high_both, leads_only, leads_first, leads_second}
use Rattle.asked.proofs.Entries.{constant_entry, switch_entry, latch_entry, gate_entry}

pub falling_gates : (c : Circuit) → Falling (first_gate c) c.gates → (i : ℕ) → i < length c.gates → ((gate_at c i).left < 2 * (first_gate c + i)) × ((gate_at c i).right < 2 * (first_gate c + i))
unfolding gate_at
falling_gates c falling i h = falling_at (first_gate c) c.gates i _ falling h

module _ (c : Circuit) (falling : Falling (first_gate c) c.gates) (state state' : Cube) (sized : length state ≡ length c.latches) (sized' : length state' ≡ length c.latches)
    (root : ℕ) (kept : (i : ℕ) → i < length c.latches → Asked (followed (first_gate c) (gate_at c) (values_in c state)) root (latch_variable c i) → get_or state' i unknown ≡ get_or state i unknown) where
  abbrev vs : List Three
  vs = values_in c state

  abbrev vs' : List Three
  vs' = values_in c state'

  abbrev follows : ℕ → List ℕ
  follows = followed (first_gate c) (gate_at c) (values_in c state)

  -- a literal, where its variable has the same value
  pub value_same : (y : ℕ) → get_or vs' (y / 2) low ≡ get_or vs (y / 2) low → value ternary vs' y ≡ value ternary vs y
  unfolding value ternary
  value_same y e = ap (signed ternary (y % 2)) e

  -- a gate, where the literals that it is followed to have the same values
  module _ (i : ℕ) (h : i < length c.gates) (lits : (y : ℕ) → y < 2 * (first_gate c + i) → Leads follows (first_gate c + i) (y / 2) → (value ternary vs y ≡ unknown → ⊥) → value ternary vs' y ≡ value ternary vs y)
      (known : get_or vs (first_gate c + i) low ≡ unknown → ⊥) where
    abbrev v : ℕ
    v = first_gate c + i

    abbrev l : ℕ
    l = (gate_at c i).left

    abbrev r : ℕ
    r = (gate_at c i).right

    place : first_gate c + i - first_gate c ≡ i
    place = omega arith

    below : (l < 2 * v) × (r < 2 * v)
    below = falling_gates c falling i h

    rule : get_or vs v low ≡ both (value ternary vs l) (value ternary vs r)
    rule = gate_entry c state sized falling i h

    rule' : get_or vs' v low ≡ both (value ternary vs' l) (value ternary vs' r)
    rule' = gate_entry c state' sized' falling i h

    at_low_left : get_or vs v low ≡ low → alike (value ternary vs l) low ≡ true → get_or vs' v low ≡ low
    unfolding both
    at_low_left e t =
        let one : follows v ≡ l ∷ [] = rw place at (low_left (first_gate c) (gate_at c) vs v (omega arith) e (rw place t)) in
        let is : value ternary vs l ≡ low = alike_same _ _ t in
        rule' ∙ ap (λ a. both a (value ternary vs' r)) (lits l below.0 (leads_only follows v l one) (low_known _ is) ∙ is)

    at_low_right : get_or vs v low ≡ low → alike (value ternary vs l) low ≡ false → get_or vs' v low ≡ low
    at_low_right e t =
        let one : follows v ≡ r ∷ [] = rw place at (low_right (first_gate c) (gate_at c) vs v (omega arith) e (rw place t)) in
        let is : value ternary vs r ≡ low = both_low _ _ (sym rule ∙ e) t in
        rule' ∙ ap (both (value ternary vs' l)) (lits r below.1 (leads_only follows v r one) (low_known _ is) ∙ is) ∙ low_second (value ternary vs' l)

    at_high : get_or vs v low ≡ high → get_or vs' v low ≡ high
    unfolding both
    at_high e =
        let two : follows v ≡ l ∷ r ∷ [] = rw place at (high_both (first_gate c) (gate_at c) vs v (omega arith) e) in
        let are = both_high _ _ (sym rule ∙ e) in
        rule' ∙ ap₂ both (lits l below.0 (leads_first follows v l r two) (high_known _ are.0) ∙ are.0) (lits r below.1 (leads_second follows v l r two) (high_known _ are.1) ∙ are.1)

    gate_same : get_or vs' v low ≡ get_or vs v low
    gate_same = by_test (alike (get_or vs v low) low)
        (λ t. let e = alike_same _ _ t in by_test (alike (value ternary vs l) low) (λ s. at_low_left e s) (λ s. at_low_right e s) ∙ sym e)
        (λ t. let e = three_values _ t known in at_high e ∙ sym e)

  -- a variable that asking about root reaches, where those that it leads to have the same values
  module _ (v : ℕ) (b : v < first_gate c + length c.gates) (asked : Asked follows root v) (known : get_or vs v low ≡ unknown → ⊥)
      (lower : (w : ℕ) → w < v → Leads follows v w → (get_or vs w low ≡ unknown → ⊥) → get_or vs' w low ≡ get_or vs w low) where
    constant : v ≡ 0 → get_or vs' v low ≡ get_or vs v low
    constant e = rw e (constant_entry c state' sized' ∙ sym (constant_entry c state sized))

    switch : 1 ≤ v → v < 1 + c.inputs → get_or vs' v low ≡ get_or vs v low
    switch from h = let place : suc (v - 1) ≡ v = omega arith in absurd (known (rw place at (switch_entry c state sized (v - 1) (omega arith))))

    latch : 1 + c.inputs ≤ v → v < first_gate c → get_or vs' v low ≡ get_or vs v low
    latch from h =
        let i : ℕ = v - (1 + c.inputs) in
        let place : latch_variable c i ≡ v = omega arith in
        let within : i < length c.latches = omega arith in
        rw place at (latch_entry c state' sized' i within ∙ kept i within (rw place asked) ∙ sym (latch_entry c state sized i within))

    gate : first_gate c ≤ v → get_or vs' v low ≡ get_or vs v low
    gate from =
        let i : ℕ = v - first_gate c in
        let place : first_gate c + i ≡ v = omega arith in
        rw place at (gate_same i (omega arith)
        (λ y l leads k. value_same y (lower (y / 2) (omega arith) (rw place at leads) (λ e. k (value_unknown vs y e))))
        (rw place known))

    step : get_or vs' v low ≡ get_or vs v low
    step = by_test (ltb v 1) (λ t. constant (omega (arith, ltb-true v 1 t)))
        (λ t. by_test (ltb v (1 + c.inputs)) (λ s. switch (ltb-false v 1 t) (ltb-true v (1 + c.inputs) s))
        (λ s. by_test (ltb v (first_gate c)) (λ q. latch (ltb-false v (1 + c.inputs) s) (ltb-true v (first_gate c) q)) (λ q. gate (ltb-false v (first_gate c) q))))

  pub same_below : (n v : ℕ) → v < n → v < first_gate c + length c.gates → ((u : ℕ) → Asked follows v u → Asked follows root u) → (get_or vs v low ≡ unknown → ⊥) → get_or vs' v low ≡ get_or vs v low
  same_below zero v h b sub known = absurd (not-suc-le-zero h)
  same_below (suc n) v h b sub known = step v b (sub v here) known (λ w less leads k. same_below n w (omega arith) (omega arith) (λ u a. sub u (on leads a)) k)

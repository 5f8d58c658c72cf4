-- What a literal reads, from the value of its variable. Assumes nothing.
use mathlib.Core.Path.{◌≡◌, sym, ap, ◌∙◌}
use mathlib.Core.List.{List}
use Prim.Native.Nat.{ℕ, ◌+◌, ◌-◌, ◌/◌, ◌%◌}
use native.Mathlib.Omega.{arith}
use borrow.Author.Tests.{eqb-true, eqb-false}
use lib.Dec.{eqb}
use lib.ListN.{get_or}
use Rattle.three.specs.Value.{Three, unknown, low, code, inverse, ternary}
use Rattle.three.specs.Cube.{alike}
use Rattle.three.proofs.Lists.{by_test}
use Rattle.three.proofs.GateRule.{inverse_unknown, inverse_code}
use Rattle.circuit.specs.Circuit.{signed, value}

module _ (vs : List Three) (x : ℕ) where
  pub value_even : x % 2 ≡ 0 → value ternary vs x ≡ get_or vs (x / 2) low
  unfolding value signed ternary
  value_even e = rw e

  pub value_odd : x % 2 ≡ 1 → value ternary vs x ≡ inverse (get_or vs (x / 2) low)
  unfolding value signed ternary
  value_odd e = rw e

  -- a literal is X where its variable is
  pub value_unknown : get_or vs (x / 2) low ≡ unknown → value ternary vs x ≡ unknown
  unfolding inverse
  value_unknown e = by_test (eqb (x % 2) 0)
      (λ t. value_even (eqb-true (x % 2) 0 t) ∙ e)
      (λ t. value_odd (omega (arith, eqb-false (x % 2) 0 t)) ∙ ap inverse e)

  pub value_known : value ternary vs x ≡ unknown → get_or vs (x / 2) low ≡ unknown
  value_known e = by_test (eqb (x % 2) 0)
      (λ t. sym (value_even (eqb-true (x % 2) 0 t)) ∙ e)
      (λ t. inverse_unknown _ (sym (value_odd (omega (arith, eqb-false (x % 2) 0 t))) ∙ e))

  -- 0 is the code 1, and the code 2 read inverted
  pub low_code : (v : ℕ) → v ≡ code (get_or vs (x / 2) low) → eqb v (1 + x % 2) ≡ alike (value ternary vs x) low
  unfolding alike code
  low_code v e = rw e (by_test (eqb (x % 2) 0)
      (λ t. let even : x % 2 ≡ 0 = eqb-true (x % 2) 0 t in rw (even, value_even even))
      (λ t. let odd : x % 2 ≡ 1 = omega (arith, eqb-false (x % 2) 0 t) in rw (odd, value_odd odd) (inverse_code _)))

-- the literal of the same variable, not inverted
module _ (x : ℕ) (odd : x % 2 ≡ 1) where
  pub upright : (x - 1) / 2 ≡ x / 2
  upright = omega arith

  upright_even : (x - 1) % 2 ≡ 0
  upright_even = omega arith

  pub value_upright : (vs : List Three) → value ternary vs x ≡ inverse (value ternary vs (x - 1))
  value_upright vs = value_odd vs x odd ∙ ap inverse (ap (λ (v : ℕ). get_or vs v low) (sym upright) ∙ sym (value_even vs (x - 1) upright_even))

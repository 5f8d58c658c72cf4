-- What is followed from a variable, and what that leads to. Assumes nothing.
use mathlib.Core.Path.{◌≡◌, refl, ◌∙◌}
use mathlib.Core.Bool.{true, false, false≢true}
use mathlib.Core.Logic.{◌⊎◌, inl, inr}
use mathlib.Core.List.{List, [], ◌∷◌}
use Prim.Native.Nat.{ℕ, ◌-◌, ◌/◌, ◌<◌, ◌≤◌}
use borrow.Author.Tests.{eqb-true, eq-eqb, le-ltb, lt-ltb}
use lib.Dec.{eqb}
use lib.ListN.{get_or}
use Rattle.three.specs.Value.{Three, low, high, ternary}
use Rattle.three.specs.Cube.{alike}
use Rattle.three.proofs.Lists.{by_test}
use Rattle.circuit.specs.Circuit.{Gate, value}
use Rattle.asked.specs.Follow.{some, causes, followed}
use Rattle.asked.specs.AskedInCode.{Leads}

-- ---- from a gate, and from what is none

module _ (first : ℕ) (gate : ℕ → Gate) (vs : List Three) (v : ℕ) where
  pub nothing_followed : v < first → followed first gate vs v ≡ []
  unfolding followed
  nothing_followed h = rw (lt-ltb v first h)

  pub gate_followed : first ≤ v → followed first gate vs v ≡ causes vs (gate (v - first)) (get_or vs v low)
  unfolding followed
  gate_followed h = rw (le-ltb v first h)

  module _ (h : first ≤ v) where
    pub low_left : get_or vs v low ≡ low → alike (value ternary vs (gate (v - first)).left) low ≡ true → followed first gate vs v ≡ (gate (v - first)).left ∷ []
    unfolding causes
    low_left e t = gate_followed h ∙ rw (e, t)

    pub low_right : get_or vs v low ≡ low → alike (value ternary vs (gate (v - first)).left) low ≡ false → followed first gate vs v ≡ (gate (v - first)).right ∷ []
    unfolding causes
    low_right e t = gate_followed h ∙ rw (e, t)

    pub high_both : get_or vs v low ≡ high → followed first gate vs v ≡ (gate (v - first)).left ∷ (gate (v - first)).right ∷ []
    unfolding causes
    high_both e = gate_followed h ∙ rw e

-- ---- to the variables of those literals

module _ (follows : ℕ → List ℕ) where
  module _ (x w : ℕ) where
    pub leads_none : follows x ≡ [] → Leads follows x w → ⊥
    unfolding some
    leads_none e l = false≢true (rw e at l)

    pub leads_one : (a : ℕ) → follows x ≡ a ∷ [] → Leads follows x w → a / 2 ≡ w
    unfolding some
    leads_one a e l = by_test (eqb (a / 2) w) (λ t. eqb-true (a / 2) w t) (λ t. absurd (false≢true (rw (e, t) at l)))

    pub leads_two : (a b : ℕ) → follows x ≡ a ∷ b ∷ [] → Leads follows x w → (a / 2 ≡ w) ⊎ (b / 2 ≡ w)
    unfolding some
    leads_two a b e l =
        by_test (eqb (a / 2) w) (λ t. inl (eqb-true (a / 2) w t))
        (λ t. by_test (eqb (b / 2) w) (λ s. inr (eqb-true (b / 2) w s)) (λ s. absurd (false≢true (rw (e, t, s) at l))))

  pub leads_only : (x a : ℕ) → follows x ≡ a ∷ [] → Leads follows x (a / 2)
  unfolding some
  leads_only x a e = rw (e, eq-eqb (a / 2) (a / 2) refl)

  pub leads_first : (x a b : ℕ) → follows x ≡ a ∷ b ∷ [] → Leads follows x (a / 2)
  unfolding some
  leads_first x a b e = rw (e, eq-eqb (a / 2) (a / 2) refl)

  pub leads_second : (x a b : ℕ) → follows x ≡ a ∷ b ∷ [] → Leads follows x (b / 2)
  unfolding some
  leads_second x a b e = by_test (eqb (a / 2) (b / 2)) (λ t. rw (e, t)) (λ t. rw (e, t, eq-eqb (b / 2) (b / 2) refl))

-- Laws of tests as facts, and of outcomes behind tests. Assumes nothing.
use mathlib.Core.Path.{◌≡◌, refl, sym, ap, subst}
use mathlib.Core.Bool.{true}
use mathlib.Core.List.{List, [], ◌∷◌, ◌++◌}
use Prim.Native.Nat.{ℕ, zero, suc}
use native.Mathlib.Omega.{arith}
use Rattle.three.proofs.Lists.{and_parts}
use Rattle.circuit.specs.Refusal.{Test, refusal, all_hold}
use Rattle.circuit.specs.RulesInCode.{Passed}
use Rattle.circuit.proofs.Refusals.{Numbered, passes}
use Rattle.text.specs.Outcome.{Outcome, accepted, refused, tested, onward, further}
use Rattle.text.specs.OutcomeInCode.{after}

-- ---- tests as facts

pub hold_passed : (ts : List Test) → all_hold ts ≡ true → Passed ts
unfolding all_hold
hold_passed [] e = tt
hold_passed (t ∷ ts) e = let p = and_parts t.holds (all_hold ts) e in (p.0, hold_passed ts p.1)

pub passed_hold : (ts : List Test) → Passed ts → all_hold ts ≡ true
unfolding all_hold
passed_hold [] p = refl
passed_hold (t ∷ ts) p = rw p.0 (passed_hold ts p.1)

pub append_passed : (ss ts : List Test) → Passed ss → Passed ts → Passed (ss ++ ts)
append_passed [] ts p q = q
append_passed (s ∷ ss) ts p q = (p.0, append_passed ss ts p.1 q)

-- ---- outcomes behind tests

pub tested_stops : {A : Type 0} (ts : List Test) (o : Outcome A) {k : ℕ} → suc k ≡ refusal ts → tested ts o ≡ refused (suc k)
unfolding tested
tested_stops ts o e = ap (λ n. after n o) (sym e)

pub tested_past : {A : Type 0} (ts : List Test) (o : Outcome A) → 0 ≡ refusal ts → tested ts o ≡ o
unfolding tested
tested_past ts o e = ap (λ n. after n o) (sym e)

-- ---- what an accepted outcome came from

pub refused_accepted : {A : Type 0} {n : ℕ} {a : A} → refused n ≡ accepted a → ⊥
refused_accepted e = let z : ◌≡◌ {A = ℕ} 0 1 = cc in omega arith

pub accepted_same : {A : Type 0} {a b : A} → accepted a ≡ accepted b → a ≡ b
accepted_same e = cc

pub tested_accepted : {A : Type 0} (ts : List Test) (o : Outcome A) {a : A} → Numbered ts → tested ts o ≡ accepted a → Passed ts × (o ≡ accepted a)
unfolding tested
tested_accepted ts o {a} n = go (refusal ts) refl
  where
    go : (k : ℕ) → k ≡ refusal ts → after k o ≡ accepted a → Passed ts × (o ≡ accepted a)
    go zero h e = (passes ts n h, e)
    go (suc k) h e = absurd (refused_accepted e)

pub further_accepted : {A : Type 0} (ts : A → List Test) (o : Outcome A) {a : A} → ((b : A) → Numbered (ts b)) → further ts o ≡ accepted a → (o ≡ accepted a) × Passed (ts a)
unfolding further
further_accepted ts (accepted b) n e = let p = tested_accepted (ts b) (accepted b) (n b) e in (p.1, subst (λ x. Passed (ts x)) (accepted_same p.1) p.0)
further_accepted ts (refused m) n e = absurd (refused_accepted e)

pub onward_accepted : {A B : Type 0} (f : A → B) (o : Outcome A) {b : B} → onward f o ≡ accepted b → (a : A) × (o ≡ accepted a) × (f a ≡ b)
unfolding onward
onward_accepted f (accepted a) e = (a, refl, cc)
onward_accepted f (refused n) e = absurd (refused_accepted e)

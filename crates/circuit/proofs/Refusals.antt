-- Laws of the order of refusals: what a test that fails, tests that hold, and the number say of each other. Assumes nothing.
use mathlib.Core.Path.{◌≡◌, refl, sym, ◌∙◌}
use mathlib.Core.Bool.{true, false}
use mathlib.Core.List.{List, [], ◌∷◌, ◌++◌}
use Prim.Native.Nat.{ℕ, zero, suc, ◌<◌}
use native.Mathlib.Omega.{arith}
use Rattle.three.proofs.Lists.{by_test}
use Rattle.circuit.specs.Refusal.{Test, refusal, left_by}
use Rattle.circuit.specs.RulesInCode.{Passed}

-- the first test fails
pub stops : (t : Test) (ts : List Test) → t.holds ≡ false → t.number ≡ refusal (t ∷ ts)
unfolding refusal
stops t ts e = rw (refusal, e)

-- the first test holds: the others decide
pub past : (t : Test) (ts : List Test) {k : ℕ} → t.holds ≡ true → k ≡ refusal ts → k ≡ refusal (t ∷ ts)
unfolding refusal
past t ts e h = rw (refusal, e) h

-- no test is left
pub none : 0 ≡ refusal []
unfolding refusal
none = refl

-- every refusal has a number
abbrev pub Numbered : List Test → Type 0
Numbered [] = Unit {0}
Numbered (t ∷ ts) = (0 < t.number) × Numbered ts

-- where nothing is refused each test holds
pub passes : (ts : List Test) → Numbered ts → 0 ≡ refusal ts → Passed ts
unfolding refusal
passes [] n e = tt
passes (t ∷ ts) n e =
    by_test t.holds
    (λ h. (h, passes ts n.1 (rw (refusal, h) at e)))
    (λ h. absurd (let z : 0 ≡ t.number = rw (refusal, h) at e in omega (arith, n.0)))

pub passed_refusal : (ts : List Test) → Passed ts → 0 ≡ refusal ts
passed_refusal [] p = none
passed_refusal (t ∷ ts) p = past t ts p.0 (passed_refusal ts p.1)

-- tests of one number give it where one of them fails
abbrev pub Alike : ℕ → List Test → Type 0
Alike k [] = Unit {0}
Alike k (t ∷ ts) = (t.number ≡ k) × Alike k ts

pub fails : (k : ℕ) (ts : List Test) → Alike k ts → (Passed ts → ⊥) → k ≡ refusal ts
fails k [] a h = absurd (h tt)
fails k (t ∷ ts) a h = by_test t.holds (λ e. past t ts e (fails k ts a.1 (λ p. h (e, p)))) (λ e. sym a.0 ∙ stops t ts e)

-- a refusal among the first tests stands
pub refusal_append : (ss ts : List Test) {k : ℕ} → refusal ss ≡ suc k → suc k ≡ refusal (ss ++ ts)
unfolding refusal
refusal_append [] ts e = absurd (omega arith)
refusal_append (s ∷ ss) ts e =
    by_test s.holds
    (λ h. past s (ss ++ ts) h (refusal_append ss ts (rw (refusal, h) at e)))
    (λ h. rw (refusal, h) (sym (rw (refusal, h) at e)))

-- the same of a number that is not 0
pub refuses_whole : (ss ts : List Test) (k : ℕ) → k ≡ refusal ss → (k ≡ 0 → ⊥) → k ≡ refusal (ss ++ ts)
refuses_whole ss ts zero e h = absurd (h refl)
refuses_whole ss ts (suc k) e h = refusal_append ss ts (sym e)

-- where the first tests hold the others decide
pub append_past : (ss ts : List Test) {k : ℕ} → Passed ss → k ≡ refusal ts → k ≡ refusal (ss ++ ts)
append_past [] ts p e = e
append_past (s ∷ ss) ts p e = past s (ss ++ ts) p.0 (append_past ss ts p.1 e)

pub passed_append : (ss ts : List Test) → Passed (ss ++ ts) → Passed ss × Passed ts
passed_append [] ts p = (tt, p)
passed_append (s ∷ ss) ts p = let q = passed_append ss ts p.1 in ((p.0, q.0), q.1)

-- where they refuse nothing the others decide
pub none_past : (ss ts : List Test) {k : ℕ} → Numbered ss → 0 ≡ refusal ss → k ≡ refusal ts → k ≡ refusal (ss ++ ts)
none_past ss ts n z = append_past ss ts (passes ss n z)

-- where nothing is refused the first tests refuse nothing, nor do the others
pub none_append : (ss ts : List Test) → Numbered ss → 0 ≡ refusal (ss ++ ts) → (0 ≡ refusal ss) × (0 ≡ refusal ts)
unfolding refusal
none_append [] ts n e = (none, e)
none_append (s ∷ ss) ts n e =
    by_test s.holds
    (λ h. let q = none_append ss ts n.1 (rw (refusal, h) at e) in (past s ss h q.0, q.1))
    (λ h. absurd (let z : 0 ≡ s.number = rw (refusal, h) at e in omega (arith, n.0)))

-- where the others refuse nothing the first tests decide
pub none_behind : (ss ts : List Test) → 0 ≡ refusal ts → refusal ss ≡ refusal (ss ++ ts)
unfolding refusal
none_behind [] ts e = e
none_behind (s ∷ ss) ts e = by_test s.holds (λ h. past s (ss ++ ts) h (rw (refusal, h) (none_behind ss ts e))) (λ h. rw (refusal, h))

-- first tests that refuse alike go alike with the others
pub refusal_alike : (rs ss ts : List Test) → Numbered rs → Numbered ss → refusal rs ≡ refusal ss → refusal (rs ++ ts) ≡ refusal (ss ++ ts)
refusal_alike rs ss ts m n same = go (refusal rs) refl
  where
    go : (k : ℕ) → refusal rs ≡ k → refusal (rs ++ ts) ≡ refusal (ss ++ ts)
    go zero e = sym (none_past rs ts m (sym e) refl) ∙ none_past ss ts n (sym e ∙ same) refl
    go (suc k) e = sym (refusal_append rs ts e) ∙ refusal_append ss ts (sym same ∙ e)

-- ---- what a call leaves

pub refused_old : {A : Type 0} (k : ℕ) (new old : A) → (k ≡ 0 → ⊥) → old ≡ left_by k new old
unfolding left_by
refused_old zero new old h = absurd (h refl)
refused_old (suc k) new old h = refl

pub accepted_new : {A : Type 0} (k : ℕ) (new old : A) → k ≡ 0 → new ≡ left_by k new old
unfolding left_by
accepted_new k new old z = rw z

-- The definition's test says what is asked, and what is asked depends only on what is followed below a bound. Assumes nothing.
use mathlib.Core.Path.{◌≡◌, refl, sym, ap₂, ◌∙◌}
use mathlib.Core.Bool.{Bool, true, false≢true}
use mathlib.Core.Logic.{◌⊎◌, inl, inr}
use mathlib.Core.List.{List, [], ◌∷◌}
use Prim.Native.Nat.{ℕ, zero, suc, ◌+◌, ◌*◌, ◌-◌, ◌/◌, ◌<◌, ◌≤◌}
use native.Mathlib.Omega.{arith}
use borrow.Author.Tests.{eqb-true, eq-eqb, ltb-true, ltb-false}
use lib.Dec.{eqb, ltb}
use lib.ListN.{get_or}
use Rattle.three.specs.Value.{Three, unknown, low, high, ternary}
use Rattle.three.specs.Cube.{alike}
use Rattle.three.proofs.Lists.{by_test}
use Rattle.circuit.specs.Circuit.{Gate, value}
use Rattle.asked.specs.Follow.{some, causes, followed, reaches}
use Rattle.asked.specs.AskedInCode.{Leads, Asked, here, on}
use Rattle.asked.proofs.Leading.{nothing_followed, gate_followed, leads_none, leads_one, leads_two}

-- ---- some

module _ (p : ℕ → Bool) where
  -- an item that passes, and that it is there
  some_elim : {P : Type 0} (l : List ℕ) → some p l ≡ true → ((x : ℕ) → p x ≡ true → some (λ y. eqb (y / 2) (x / 2)) l ≡ true → P) → P
  unfolding some
  some_elim [] e k = absurd (false≢true e)
  some_elim (x ∷ xs) e k = by_test (p x)
      (λ t. k x t (rw (eq-eqb (x / 2) (x / 2) refl)))
      (λ t. some_elim xs (rw t at e) (λ y s i. k y s (by_test (eqb (x / 2) (y / 2)) (λ q. rw q) (λ q. rw q i))))

  some_intro : (w : ℕ) (l : List ℕ) → some (λ y. eqb (y / 2) w) l ≡ true → ((x : ℕ) → x / 2 ≡ w → p x ≡ true) → some p l ≡ true
  unfolding some
  some_intro w [] e k = absurd (false≢true e)
  some_intro w (x ∷ xs) e k = by_test (p x) (λ t. rw t)
      (λ t. by_test (eqb (x / 2) w) (λ q. absurd (false≢true (sym t ∙ k x (eqb-true (x / 2) w q)))) (λ q. rw t (some_intro w xs (rw q at e) k)))

-- ---- what is asked, where what is followed falls below b

module _ (follows : ℕ → List ℕ) where
  abbrev pub Falls : ℕ → Type 0
  Falls b = (v w : ℕ) → v < b → Leads follows v w → w < v

-- only what is followed below b counts
pub asked_same : (f g : ℕ → List ℕ) (b : ℕ) → Falls f b → ((v : ℕ) → v < b → f v ≡ g v) → {v u : ℕ} → v < b → Asked f v u → Asked g v u
asked_same f g b falls same h here = here
asked_same f g b falls same {v} h (on {w = w} l a) = on (rw (same v h) at l) (asked_same f g b falls same (omega (arith, falls v w h l)) a)

module _ (first : ℕ) (gate : ℕ → Gate) (vs : List Three) where
  pub reaches_asked : (n v u : ℕ) → reaches first gate vs n v u ≡ true → Asked (followed first gate vs) v u
  unfolding reaches
  reaches_asked zero v u e = rw (← eqb-true v u e) here
  reaches_asked (suc n) v u e = by_test (eqb v u)
      (λ t. rw (← eqb-true v u t) here)
      (λ t. some_elim (λ x. reaches first gate vs n (x / 2) u) (followed first gate vs v) (rw t at e) (λ x r l. on l (reaches_asked n (x / 2) u r)))

  pub asked_reaches : (b : ℕ) → Falls (followed first gate vs) b → (n v u : ℕ) → v ≤ n → v < b → Asked (followed first gate vs) v u → reaches first gate vs n v u ≡ true
  unfolding reaches
  asked_reaches b falls zero v u h k here = eq-eqb v v refl
  asked_reaches b falls zero v u h k (on {w = w} l a) = absurd (omega (arith, falls v w k l))
  asked_reaches b falls (suc n) v u h k here = rw (eq-eqb v v refl)
  asked_reaches b falls (suc n) v u h k (on {w = w} l a) =
      let less = falls v w k l in
      let rest : some (λ x. reaches first gate vs n (x / 2) u) (followed first gate vs v) ≡ true =
      some_intro (λ x. reaches first gate vs n (x / 2) u) w (followed first gate vs v) l (λ x e. rw e (asked_reaches b falls n w u (omega arith) (omega arith) a)) in
      by_test (eqb v u) (λ t. rw t) (λ t. rw t rest)

-- ---- what is followed from a gate

-- one of the operands
causes_leads : (vs : List Three) (g : Gate) (a : Three) (w : ℕ) → some (λ x. eqb (x / 2) w) (causes vs g a) ≡ true → (g.left / 2 ≡ w) ⊎ (g.right / 2 ≡ w)
unfolding causes
causes_leads vs g unknown w l = absurd (leads_none (λ n. []) 0 w refl l)
causes_leads vs g low w l = by_test (alike (value ternary vs g.left) low)
    (λ t. inl (leads_one (λ n. g.left ∷ []) 0 w g.left refl (rw t at l)))
    (λ t. inr (leads_one (λ n. g.right ∷ []) 0 w g.right refl (rw t at l)))
causes_leads vs g high w l = leads_two (λ n. g.left ∷ g.right ∷ []) 0 w g.left g.right refl l

module _ (first count : ℕ) (gate : ℕ → Gate) (vs : List Three) where
  pub gates_fall : ((i : ℕ) → i < count → ((gate i).left < 2 * (first + i)) × ((gate i).right < 2 * (first + i))) → Falls (followed first gate vs) (first + count)
  gates_fall below v w h l = by_test (ltb v first)
      (λ t. absurd (leads_none (followed first gate vs) v w (nothing_followed first gate vs v (ltb-true v first t)) l))
      (λ t. let from = ltb-false v first t in
      let less = below (v - first) (omega arith) in
      operand from less (causes_leads vs (gate (v - first)) (get_or vs v low) w (rw (gate_followed first gate vs v from) at l)))
    where
      operand : first ≤ v → ((gate (v - first)).left < 2 * (first + (v - first))) × ((gate (v - first)).right < 2 * (first + (v - first)))
          → ((gate (v - first)).left / 2 ≡ w) ⊎ ((gate (v - first)).right / 2 ≡ w) → w < v
      operand from less (inl e) = omega (arith, less.0)
      operand from less (inr e) = omega (arith, less.1)

  causes_same : (vs' : List Three) (g : Gate) (a : Three) → value ternary vs g.left ≡ value ternary vs' g.left → causes vs g a ≡ causes vs' g a
  unfolding causes
  causes_same vs' g unknown e = refl
  causes_same vs' g low e = rw e
  causes_same vs' g high e = refl

  -- the same gates, and the same values of what they read
  pub followed_same : (gate' : ℕ → Gate) (vs' : List Three) → ((i : ℕ) → i < count → gate i ≡ gate' i)
      → ((i : ℕ) → i < count → value ternary vs (gate' i).left ≡ value ternary vs' (gate' i).left) → ((v : ℕ) → v < first + count → get_or vs v low ≡ get_or vs' v low)
      → (v : ℕ) → v < first + count → followed first gate vs v ≡ followed first gate' vs' v
  followed_same gate' vs' gates values entries v h = by_test (ltb v first)
      (λ t. let l = ltb-true v first t in nothing_followed first gate vs v l ∙ sym (nothing_followed first gate' vs' v l))
      (λ t. let from = ltb-false v first t in
      gate_followed first gate vs v from
      ∙ ap₂ (causes vs) (gates (v - first) (omega arith)) (entries v h)
      ∙ causes_same vs' (gate' (v - first)) (get_or vs' v low) (values (v - first) (omega arith))
      ∙ sym (gate_followed first gate' vs' v from))

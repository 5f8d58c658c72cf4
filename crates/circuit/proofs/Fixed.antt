-- A settled list is a fixed point: each gate's entry is the gate rule of its operands' values in the same list. Assumes nothing.
use mathlib.Core.Path.{◌≡◌, refl, sym, ap, ap₂, ◌∙◌}
use mathlib.Core.List.{List, [], ◌∷◌, ◌++◌}
use Prim.Native.Nat.{ℕ, zero, suc, ◌+◌, ◌*◌, ◌/◌, ◌%◌, ◌<◌, suc-le-suc}
use native.Mathlib.Nat.{add-zero, le_of_suc-le-suc, not-suc-le-zero}
use native.Mathlib.Omega.{arith}
use lib.ListN.{length, get_or, length-append, get_or-append}
use Rattle.three.specs.Lists.{tabulate}
use Rattle.three.specs.Value.{Logic}
use Rattle.circuit.specs.Circuit.{Gate, signed, value, pass}

-- each gate reads variables below its own, the first gate being variable n
abbrev pub Falling : ℕ → List Gate → Type 0
Falling n [] = Unit {0}
Falling n (g ∷ gs) = (g.left < 2 * n) × (g.right < 2 * n) × Falling (suc n) gs

pub falling : (n m : ℕ) (f : ℕ → Gate) → ((i : ℕ) → i < m → ((f i).left < 2 * (n + i)) × ((f i).right < 2 * (n + i))) → Falling n (tabulate m f)
unfolding tabulate
falling n zero f h = tt
falling n (suc m) f h =
    let a = h 0 (omega arith) in
    (omega (arith, a.0), omega (arith, a.1), falling (suc n) m (λ i. f (suc i)) (λ i l. let b = h (suc i) (suc-le-suc l) in (omega (arith, b.0), omega (arith, b.1))))

-- and so each by its number
pub falling_at : (n : ℕ) (gs : List Gate) (i : ℕ) (g₀ : Gate) → Falling n gs → i < length gs → ((get_or gs i g₀).left < 2 * (n + i)) × ((get_or gs i g₀).right < 2 * (n + i))
falling_at n [] i g₀ f h = absurd (not-suc-le-zero h)
falling_at n (g ∷ gs) zero g₀ f h = (omega (arith, f.0), omega (arith, f.1))
falling_at n (g ∷ gs) (suc i) g₀ f h = let b = falling_at (suc n) gs i g₀ f.2 (le_of_suc-le-suc h) in (omega (arith, b.0), omega (arith, b.1))

module _ {A : Type 0} (logic : Logic A) where
  abbrev output : List A → Gate → A
  output vs g = logic.and (value logic vs g.left) (value logic vs g.right)

  longer : (vs : List A) (x : A) → length (vs ++ (x ∷ [])) ≡ suc (length vs)
  longer vs x = length-append vs (x ∷ []) ∙ omega arith

  -- what stands in front stays
  pub entry_front : (vs : List A) (gs : List Gate) (i : ℕ) (d : A) → i < length vs → get_or (pass logic vs gs) i d ≡ get_or vs i d
  unfolding pass
  entry_front vs [] i d h = refl
  entry_front vs (g ∷ gs) i d h =
      entry_front (vs ++ (output vs g ∷ [])) gs i d (omega (arith, longer vs (output vs g))) ∙ get_or-append vs (output vs g ∷ []) d i h

  pub value_front : (vs : List A) (gs : List Gate) (x : ℕ) → x < 2 * length vs → value logic (pass logic vs gs) x ≡ value logic vs x
  unfolding value
  value_front vs gs x h = ap (signed logic (x % 2)) (entry_front vs gs (x / 2) logic.false (omega arith))

  last_item : (vs : List A) (x d : A) → get_or (vs ++ (x ∷ [])) (length vs) d ≡ x
  last_item [] x d = refl
  last_item (v ∷ vs) x d = last_item vs x d

  pub pass_at : (vs : List A) (gs : List Gate) (i : ℕ) (g₀ : Gate) (d : A) → Falling (length vs) gs → i < length gs
      → get_or (pass logic vs gs) (length vs + i) d ≡ output (pass logic vs gs) (get_or gs i g₀)
  unfolding pass
  pass_at vs [] i g₀ d f h = absurd (not-suc-le-zero h)
  pass_at vs (g ∷ gs) zero g₀ d f h =
      let x : A = output vs g in
      let all : List A = pass logic (vs ++ (x ∷ [])) gs in
      let seen : get_or all (length vs) d ≡ x = entry_front (vs ++ (x ∷ [])) gs (length vs) d (omega (arith, longer vs x)) ∙ last_item vs x d in
      let place : length vs + 0 ≡ length vs = add-zero (length vs) in
      ap (λ (n : ℕ). get_or all n d) place ∙ seen
      ∙ ap₂ logic.and (sym (value_front vs (g ∷ gs) g.left f.0)) (sym (value_front vs (g ∷ gs) g.right f.1))
  pass_at vs (g ∷ gs) (suc i) g₀ d f h =
      let x : A = output vs g in
      let all : List A = pass logic (vs ++ (x ∷ [])) gs in
      let place : length vs + suc i ≡ length (vs ++ (x ∷ [])) + i = omega (arith, longer vs x) in
      ap (λ (n : ℕ). get_or all n d) place
      ∙ pass_at (vs ++ (x ∷ [])) gs i g₀ d (rw (longer vs x) f.2) (le_of_suc-le-suc h)

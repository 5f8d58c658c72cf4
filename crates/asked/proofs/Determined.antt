-- The contract determines everything: any two results that it allows are equal, and for an example they are what is computed; what a refusal leaves. Assumes nothing.
use mathlib.Core.Path.{◌≡◌, sym, ◌∙◌}
use mathlib.Core.List.{List, ◌∷◌}
use Prim.Native.Nat.{ℕ}
use Rattle.circuit.proofs.Refusals.{refused_old}
use Rattle.asked.specs.Call.{WhyGiven, Explained}
use Rattle.asked.specs.Examples.{answered}

pub determined : (g : WhyGiven) {number number' : ℕ} {why why' : List ℕ} → Explained g number why → Explained g number' why' → (number ≡ number') × (why ≡ why')
determined g s t = let same = s.answers ∙ sym t.answers in (same, cc same)

module _ {g : WhyGiven} {number : ℕ} {why : List ℕ} (e : Explained g number why) where
  pub as_computed : number ∷ why ≡ answered g
  unfolding answered
  as_computed = cc (e.answers, e.fills)

  -- a refusal leaves the result's buffer as it was
  pub why_leaves : (number ≡ 0 → ⊥) → why ≡ g.why
  why_leaves h = e.fills ∙ sym (refused_old number _ _ h)

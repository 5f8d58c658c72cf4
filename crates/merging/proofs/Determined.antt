-- The contract determines everything: any two results that it allows are equal, and for an example they are what is computed; what a refusal leaves. Assumes nothing.
use mathlib.Core.Path.{◌≡◌, sym, ◌∙◌}
use mathlib.Core.List.{List, ◌∷◌}
use Prim.Native.Nat.{ℕ}
use Rattle.circuit.proofs.Refusals.{refused_old}
use Rattle.merging.specs.Call.{MergeGiven, Merging}
use Rattle.merging.specs.Examples.{answered}

pub determined : (g : MergeGiven) {number number' : ℕ} {merged merged' : List ℕ} → Merging g number merged → Merging g number' merged' → (number ≡ number') × (merged ≡ merged')
determined g s t = let same = s.answers ∙ sym t.answers in (same, cc same)

module _ {g : MergeGiven} {number : ℕ} {merged : List ℕ} (m : Merging g number merged) where
  pub as_computed : number ∷ merged ≡ answered g
  unfolding answered
  as_computed = cc (m.answers, m.fills)

  -- a refusal leaves the result's buffer as it was
  pub merge_leaves : (number ≡ 0 → ⊥) → merged ≡ g.merged
  merge_leaves h = m.fills ∙ sym (refused_old number _ _ h)

-- The contract of a sent cover determines everything: any two results that it allows are equal, and for an example they are what is computed; what a refusal leaves. Assumes nothing.
use mathlib.Core.Path.{◌≡◌, sym, ◌∙◌}
use mathlib.Core.List.{List, ◌∷◌}
use Prim.Native.Nat.{ℕ}
use borrow.Author.Tests.{ne_eqb}
use Rattle.circuit.proofs.Refusals.{refused_old}
use Rattle.sent.specs.declared.CoverAnswer.{CoverAnswer}
use Rattle.sent.specs.Call.{SentGiven, Sent}
use Rattle.sent.specs.Examples.{answered}

pub determined : (g : SentGiven) {r r' : CoverAnswer} {verdict verdict' : List ℕ} → Sent g r verdict → Sent g r' verdict'
    → (r.number ≡ r'.number) × (r.cube ≡ r'.cube) × (verdict ≡ verdict')
determined g s t = let same = s.answers ∙ sym t.answers in (same, cc (same, s.names, t.names), cc (same, s.fills_verdict, t.fills_verdict))

module _ {g : SentGiven} {r : CoverAnswer} {verdict : List ℕ} (sent : Sent g r verdict) where
  pub as_computed : r.number ∷ r.cube ∷ verdict ≡ answered g
  unfolding answered
  as_computed = cc (sent.answers, sent.names, sent.fills_verdict)

  -- a refusal leaves the verdict's buffer as it was, and any but 18 answers 0 beside its number
  pub cover_leaves : (r.number ≡ 0 → ⊥) → verdict ≡ g.verdict
  cover_leaves h = sent.fills_verdict ∙ sym (refused_old r.number _ _ h)

  pub cover_zeros : (r.number ≡ 18 → ⊥) → r.cube ≡ 0
  cover_zeros h = let other = ne_eqb r.number 18 h in rw other at sent.names

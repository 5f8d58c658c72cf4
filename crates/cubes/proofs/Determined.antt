-- The contracts of chain and judge determine everything: any two results that they allow are equal. Assumes nothing.
use mathlib.Core.Path.{◌≡◌, sym, ◌∙◌}
use mathlib.Core.List.{List}
use Prim.Native.Nat.{ℕ}
use Rattle.cubes.specs.declared.ChainAnswer.{ChainAnswer}
use Rattle.cubes.specs.declared.JudgeAnswer.{JudgeAnswer}
use Rattle.cubes.specs.Chain.{ChainGiven, Chained}
use Rattle.cubes.specs.Judge.{JudgeGiven, Judged}

pub chain_determined : (g : ChainGiven) {r r' : ChainAnswer} {cubes cubes' : List ℕ} → Chained g r cubes → Chained g r' cubes'
    → (r.number ≡ r'.number) × (r.cubes ≡ r'.cubes) × (r.back ≡ r'.back) × (cubes ≡ cubes')
chain_determined g s t =
    (s.answers ∙ sym t.answers, s.counts ∙ sym t.counts, s.goes_back ∙ sym t.goes_back, s.fills_cubes ∙ sym t.fills_cubes)

pub judge_determined : (g : JudgeGiven) {r r' : JudgeAnswer} {verdict verdict' settled settled' : List ℕ}
    → Judged g r verdict settled → Judged g r' verdict' settled' → (r.number ≡ r'.number) × (r.settled ≡ r'.settled) × (verdict ≡ verdict') × (settled ≡ settled')
judge_determined g s t =
    let same = s.answers ∙ sym t.answers in
    (same, cc (same, s.settles, t.settles), cc (same, s.fills_verdict, t.fills_verdict), cc (same, s.fills_settled, t.fills_settled))

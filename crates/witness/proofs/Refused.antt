-- What a refusal leaves, from the contracts alone: zeros beside the number, and every lent buffer as it was; before 15 no cube either. Assumes nothing.
use mathlib.Core.Path.{◌≡◌, sym, ◌∙◌}
use mathlib.Core.List.{List}
use Prim.Native.Nat.{ℕ}
use Rattle.circuit.specs.declared.Counts.{Counts}
use Rattle.circuit.proofs.Refusals.{refused_old}
use Rattle.tick.specs.Tick.{TickGiven, Ticked}
use Rattle.text.specs.Calls.{ReadBy, WrittenBy, zeros}
use Rattle.text.specs.Text.{Content}
use Rattle.text.specs.Outcome.{Outcome, accepted, refused, number_of, leaves}
use Rattle.cubes.specs.declared.ChainAnswer.{ChainAnswer}
use Rattle.cubes.specs.declared.JudgeAnswer.{JudgeAnswer}
use Rattle.cubes.specs.Chain.{ChainGiven, refused_by, Chained}
use Rattle.cubes.specs.Judge.{JudgeGiven, Judged}

-- ---- the reader

outcome_refused : {A B : Type 0} (f : A → B) (b : B) (o : Outcome A) → (number_of o ≡ 0 → ⊥) → leaves f b o ≡ b
unfolding number_of leaves
outcome_refused f b (accepted a) h = absurd (h mathlib.Core.Path.refl)
outcome_refused f b (refused n) h = mathlib.Core.Path.refl

pub read_leaves : {o : Outcome Content} {table : List ℕ} {number : ℕ} {counts : Counts} {table' : List ℕ} → ReadBy o table number counts table'
    → (number ≡ 0 → ⊥) → (counts ≡ zeros) × (table' ≡ table)
read_leaves {o} r h =
    let no : (number_of o ≡ 0 → ⊥) = λ z. h (r.answers ∙ z) in
    (r.returns ∙ outcome_refused _ _ o no, r.fills ∙ outcome_refused _ _ o no)

-- ---- the writer

pub write_leaves : {c : Counts} {table written buffer : List ℕ} {number bytes : ℕ} {buffer' : List ℕ} → WrittenBy c table written buffer number bytes buffer'
    → (number ≡ 0 → ⊥) → (bytes ≡ 0) × (buffer' ≡ buffer)
write_leaves {number = number} w h = (w.returns ∙ sym (refused_old number _ _ h), w.fills ∙ sym (refused_old number _ _ h))

-- ---- the tick

pub tick_leaves : {g : TickGiven} {number : ℕ} {next lamps : List ℕ} → Ticked g number next lamps → (number ≡ 0 → ⊥) → (next ≡ g.next) × (lamps ≡ g.lamps)
tick_leaves {g} {number} t h = (t.fills_next ∙ sym (refused_old number _ _ h), t.fills_lamps ∙ sym (refused_old number _ _ h))

-- ---- chain and judge

pub chain_leaves : {g : ChainGiven} {r : ChainAnswer} {cubes : List ℕ} → Chained g r cubes → (refused_by g ≡ 0 → ⊥) → (r.cubes ≡ 0) × (r.back ≡ 0) × (cubes ≡ g.cubes)
chain_leaves {g} chained h = (
  chained.counts ∙ sym (refused_old (refused_by g) _ _ h),
  chained.goes_back ∙ sym (refused_old (refused_by g) _ _ h),
  chained.fills_cubes ∙ sym (refused_old (refused_by g) _ _ h),
)

pub judge_leaves : {g : JudgeGiven} {r : JudgeAnswer} {verdict settled : List ℕ} → Judged g r verdict settled → (r.number ≡ 0 → ⊥) → (r.settled ≡ 0) × (verdict ≡ g.verdict) × (settled ≡ g.settled)
judge_leaves {g} {r} judged h = (
  judged.settles ∙ sym (refused_old r.number _ _ h),
  judged.fills_verdict ∙ sym (refused_old r.number _ _ h),
  judged.fills_settled ∙ sym (refused_old r.number _ _ h),
)

-- Any two results that the contract of the run allows are equal (specification, 8.2); those of the reader by text/proofs/Determined. Assumes nothing.
use mathlib.Core.Path.{◌≡◌, sym, ◌∙◌}
use mathlib.Core.List.{List}
use Prim.Native.Nat.{ℕ}
use Rattle.cubes.specs.declared.ChainAnswer.{ChainAnswer}
use Rattle.beginners.specs.Calls.{BoardGiven, ChainedBeginners}

pub chained_determined : {g : BoardGiven} {q r : ChainAnswer} {u v : List ℕ}
    → ChainedBeginners g q u → ChainedBeginners g r v → (q.number ≡ r.number) × (q.cubes ≡ r.cubes) × (q.back ≡ r.back) × (u ≡ v)
chained_determined r s = (r.answers ∙ sym s.answers, r.counts ∙ sym s.counts, r.goes_back ∙ sym s.goes_back, r.fills_cubes ∙ sym s.fills_cubes)

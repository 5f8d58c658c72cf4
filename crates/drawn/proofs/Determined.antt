-- Any two results that the contract of the reader for any order allows are equal (specification, 8.2). Assumes nothing.
use mathlib.Core.Path.{◌≡◌, sym, ◌∙◌}
use mathlib.Core.List.{List}
use Prim.Native.Nat.{ℕ}
use Rattle.circuit.specs.declared.Counts.{Counts}
use Rattle.drawn.specs.Lines.{ReadingAny}

pub reading_any_determined : (text words names : List ℕ) {m n i j : ℕ} {c d : Counts} {t u v w : List ℕ}
    → ReadingAny text words names m c i t v → ReadingAny text words names n d j u w → (m ≡ n) × (c ≡ d) × (i ≡ j) × (t ≡ u) × (v ≡ w)
reading_any_determined text words names r s =
    (r.answers ∙ sym s.answers, r.returns ∙ sym s.returns, r.most_is ∙ sym s.most_is, r.fills ∙ sym s.fills, r.renumbers ∙ sym s.renumbers)

-- Any two results that the contract of a call allows are equal (specification, 8.2). Assumes nothing.
use mathlib.Core.Path.{◌≡◌, sym, ◌∙◌}
use mathlib.Core.List.{List}
use Prim.Native.Nat.{ℕ}
use Rattle.circuit.specs.declared.Counts.{Counts}
use Rattle.text.specs.Outcome.{Outcome}
use Rattle.text.specs.Text.{Content}
use Rattle.text.specs.Calls.{ReadBy, WrittenBy}

pub reading_determined : {o : Outcome Content} {table : List ℕ} {m n : ℕ} {c d : Counts} {u v : List ℕ}
    → ReadBy o table m c u → ReadBy o table n d v → (m ≡ n) × (c ≡ d) × (u ≡ v)
reading_determined r s = (r.answers ∙ sym s.answers, r.returns ∙ sym s.returns, r.fills ∙ sym s.fills)

pub writing_determined : {c : Counts} {table written buffer : List ℕ} {m n a b : ℕ} {u v : List ℕ}
    → WrittenBy c table written buffer m a u → WrittenBy c table written buffer n b v → (m ≡ n) × (a ≡ b) × (u ≡ v)
writing_determined r s = let e = r.answers ∙ sym s.answers in (e, cc, cc)

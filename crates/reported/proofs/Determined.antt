-- The report's contract allows one answer and one buffer. Assumes nothing.
use mathlib.Core.Path.{◌≡◌}
use mathlib.Core.List.{List}
use Prim.Native.Nat.{ℕ}
use Rattle.reported.specs.Report.{Reported}

pub determined : {text buffer : List ℕ} {r r' : ℕ} {buffer₁ buffer₂ : List ℕ} → Reported text buffer r buffer₁ → Reported text buffer r' buffer₂ → (r ≡ r') × (buffer₁ ≡ buffer₂)
determined a b = (cc (a.returns, b.returns), cc (a.fills, b.fills))

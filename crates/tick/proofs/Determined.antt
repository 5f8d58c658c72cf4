-- The contract of the tick determines everything: any two results that it allows are equal. Assumes nothing.
use mathlib.Core.Path.{◌≡◌, sym, ◌∙◌}
use mathlib.Core.List.{List}
use Prim.Native.Nat.{ℕ}
use Rattle.tick.specs.Tick.{TickGiven, Ticked}

pub determined : (g : TickGiven) {number number' : ℕ} {next next' lamps lamps' : List ℕ} → Ticked g number next lamps → Ticked g number' next' lamps'
    → (number ≡ number') × (next ≡ next') × (lamps ≡ lamps')
determined g s t = let same = s.answers ∙ sym t.answers in (same, cc same, cc same)

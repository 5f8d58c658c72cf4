-- Laws of a list stored into another: one behind another, and from the front. Assumes nothing.
use mathlib.Core.Path.{◌≡◌, ap, ◌∙◌}
use mathlib.Core.List.{List, [], ◌∷◌, ◌++◌}
use Prim.Native.Nat.{ℕ, suc, ◌+◌, ◌≤◌}
use native.Mathlib.Nat.{add-zero, zero-add}
use native.Mathlib.Omega.{arith}
use lib.ListN.{length, set}
use lib.Seq.{sets, sets-eq}
use Rattle.three.specs.Lists.{over}

pub sets_append : (l : List ℕ) (i : ℕ) (s t : List ℕ) → sets l i (s ++ t) ≡ sets (sets l i s) (i + length s) t
sets_append l i [] t = rw add-zero
sets_append l i (a ∷ s) t =
    let e : suc i + length s ≡ i + suc (length s) = omega arith in
    sets_append (set l i a) (suc i) s t ∙ ap (λ (k : ℕ). sets (sets (set l i a) (suc i) s) k t) e

-- a list that is stored from the front
pub sets_front : (d s : List ℕ) → length s ≤ length d → sets d 0 s ≡ over s d
unfolding over
sets_front d s h = sets-eq s d 0 (rw zero-add h) ∙ rw zero-add

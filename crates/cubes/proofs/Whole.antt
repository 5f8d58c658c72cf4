-- Cubes without X: such a cube is the one state that lies in it, and a merge of known fields is known or two of them differ. Assumes nothing.
use mathlib.Core.Path.{◌≡◌, refl, sym, ap, ◌∙◌}
use mathlib.Core.Bool.{Bool, true, false, not}
use mathlib.Core.List.{List, [], ◌∷◌, map}
use mathlib.Core.Logic.{◌⊎◌, inl, inr}
use Prim.Native.Nat.{ℕ, zero, suc, ◌≤◌}
use native.Mathlib.Nat.{zero-add}
use native.Mathlib.Omega.{arith}
use lib.ListN.{length, get_or}
use Rattle.three.specs.Lists.{empty, also}
use Rattle.three.specs.Value.{Three, unknown, low, high, code, known}
use Rattle.three.specs.Cube.{Cube, alike, blank, agree, merged, known_fields, any, off, on, ◌∋◌}
use Rattle.three.proofs.Merge.{get_or_merged}
use Rattle.cubes.specs.Run.{merge}
use Rattle.cubes.proofs.Wider.{merge_sized}

-- ---- cubes without X

known_most : (cube : Cube) → known_fields cube ≤ length cube
unfolding known_fields
known_most [] = omega arith
known_most (unknown ∷ vs) = omega (arith, known_most vs)
known_most (low ∷ vs) = omega (arith, known_most vs)
known_most (high ∷ vs) = omega (arith, known_most vs)

-- such a cube is the one state that lies in it
pub whole_state : (cube : Cube) {s : List Bool} → known_fields cube ≡ length cube → cube ∋ s → cube ≡ map known s
unfolding known_fields known
whole_state [] e empty = refl
whole_state (unknown ∷ vs) e (also any h) = absurd (omega (arith, known_most vs))
whole_state (low ∷ vs) e (also off h) = ap (λ (ws : Cube). low ∷ ws) (whole_state vs (omega arith) h)
whole_state (high ∷ vs) e (also on h) = ap (λ (ws : Cube). high ∷ ws) (whole_state vs (omega arith) h)

pub state_whole : (s : List Bool) → known_fields (map known s) ≡ length (map known s)
unfolding known_fields known
state_whole [] = refl
state_whole (false ∷ s) = ap suc (state_whole s)
state_whole (true ∷ s) = ap suc (state_whole s)

-- ---- a merge of known fields is the first of them, or another differs from it

agree_known : (a b : Bool) → (agree (known a) (known b) ≡ known a) ⊎ (b ≡ not a)
unfolding agree blank alike code known
agree_known false false = inl refl
agree_known false true = inr refl
agree_known true false = inr refl
agree_known true true = inl refl

-- the merge m of the fields `known (v 0)` to `known (v more)`
pub data Kept (v : ℕ → Bool) (more : ℕ) (m : Three) : Type 0 where
  all : m ≡ known (v 0) → Kept v more m
  differs : (k : ℕ) → k ≤ more → v k ≡ not (v 0) → Kept v more m

module _ (cubes : ℕ → Cube) (size i : ℕ) (sized : (k : ℕ) → length (cubes k) ≡ size) (v : ℕ → Bool) where
  pub kept : (more : ℕ) → ((k : ℕ) → k ≤ more → get_or (cubes k) i unknown ≡ known (v k)) → Kept v more (get_or (merge cubes 0 more) i unknown)
  unfolding merge
  kept zero is = all (is 0 (omega arith))
  kept (suc more) is = go (kept more (λ k h. is k (omega arith)))
    where
      step : get_or (merge cubes 0 (suc more)) i unknown ≡ agree (get_or (merge cubes 0 more) i unknown) (known (v (suc more)))
      step = ap (λ (m : ℕ). get_or (merged (merge cubes 0 more) (cubes m)) i unknown) (zero-add (suc more))
          ∙ get_or_merged (merge cubes 0 more) (cubes (suc more)) (merge_sized cubes size sized 0 more ∙ sym (sized (suc more))) i ∙ ap (agree (get_or (merge cubes 0 more) i unknown)) (is (suc more) (omega arith))

      last : get_or (merge cubes 0 more) i unknown ≡ known (v 0) → (agree (known (v 0)) (known (v (suc more))) ≡ known (v 0)) ⊎ (v (suc more) ≡ not (v 0)) → Kept v (suc more) (get_or (merge cubes 0 (suc more)) i unknown)
      last e (inl a) = all (step ∙ ap (λ (x : Three). agree x (known (v (suc more)))) e ∙ a)
      last e (inr a) = differs (suc more) (omega arith) a

      go : Kept v more (get_or (merge cubes 0 more) i unknown) → Kept v (suc more) (get_or (merge cubes 0 (suc more)) i unknown)
      go (all e) = last e (agree_known (v 0) (v (suc more)))
      go (differs k h e) = differs k (omega arith) e

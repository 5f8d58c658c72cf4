-- A cube that subsumes another loses no state; the merge of cubes is as long as they are, and the narrowest that loses none of theirs. Assumes nothing.
use mathlib.Core.Path.{◌≡◌, sym, ◌∙◌}
use mathlib.Core.Bool.{Bool, true, false≢true}
use mathlib.Core.List.{List, [], ◌∷◌}
use Prim.Native.Nat.{ℕ, zero, suc, ◌+◌, ◌<◌, ◌≤◌}
use native.Mathlib.Decide.{dec_le}
use native.Mathlib.Omega.{arith}
use lib.ListN.{length, length-map}
use Rattle.three.specs.Lists.{empty, also}
use Rattle.three.specs.Value.{Three, unknown, low, high, code, ternary}
use Rattle.three.specs.Cube.{Cube, alike, allows, subsumes, Holds, any, off, on, ◌∋◌}
use Rattle.three.proofs.Lists.{and_parts, length_adjust}
use Rattle.three.proofs.Merge.{length_merged, subsumes_self, merged_covers_left, merged_covers_right, merged_narrowest}
use Rattle.three.proofs.Subsuming.{subsumes_trans}
use Rattle.circuit.specs.Circuit.{Circuit}
use Rattle.cubes.specs.Run.{hold, next_cube, start, reached, Stage, store, stage, cube_at, merge, merge_from, resets}
use Rattle.circuit.proofs.Pass.{next_sized}

-- ---- subsuming cubes

allows_holds : (a : Three) {b : Three} {s : Bool} → allows a b ≡ true → Holds b s → Holds a s
unfolding allows alike code
allows_holds unknown e h = any
allows_holds low e any = absurd (false≢true e)
allows_holds low e off = off
allows_holds low e on = absurd (false≢true e)
allows_holds high e any = absurd (false≢true e)
allows_holds high e off = absurd (false≢true e)
allows_holds high e on = on

pub subsumes_widens : (a : Cube) {b : Cube} → subsumes a b ≡ true → {s : List Bool} → b ∋ s → a ∋ s
unfolding subsumes
subsumes_widens [] e empty = empty
subsumes_widens [] e (also h hs) = absurd (false≢true e)
subsumes_widens (x ∷ a) e empty = absurd (false≢true e)
subsumes_widens (x ∷ a) e (also {a = y} {xs = b} h hs) =
    let parts = and_parts (allows x y) (subsumes a b) e in
    also (allows_holds x parts.0 h) (subsumes_widens a parts.1 hs)

-- ---- merged cubes

module _ (cubes : ℕ → Cube) (size : ℕ) (sized : (k : ℕ) → length (cubes k) ≡ size) (k : ℕ) where
  pub merge_sized : (more : ℕ) → length (merge cubes k more) ≡ size
  unfolding merge
  merge_sized zero = sized k
  merge_sized (suc more) = length_merged _ _ ∙ merge_sized more

  -- the merge of cubes k to k + more subsumes each of them
  pub merge_covers : (more i : ℕ) → k ≤ i → i ≤ k + more → subsumes (merge cubes k more) (cubes i) ≡ true
  unfolding merge
  merge_covers zero i l u = let e : i ≡ k = omega arith in rw e (subsumes_self (cubes k))
  merge_covers (suc more) i l u = go (dec_le i (k + more)) (λ (u : i ≤ k + more). merge_covers more i l u)
    where
      go : Dec (i ≤ k + more) → (i ≤ k + more → subsumes (merge cubes k more) (cubes i) ≡ true) → subsumes (merge cubes k (suc more)) (cubes i) ≡ true
      go (yes early) rest = subsumes_trans _ _ _ (merged_covers_left _ _) (rest early)
      go (no late) rest = let e : i ≡ k + suc more = omega arith in rw e (merged_covers_right _ _ (merge_sized more ∙ sym (sized _)))

  -- and is the narrowest that does
  pub merge_narrowest : (more : ℕ) (c : Cube) → ((i : ℕ) → k ≤ i → i ≤ k + more → subsumes c (cubes i) ≡ true) → subsumes c (merge cubes k more) ≡ true
  unfolding merge
  merge_narrowest zero c over = over k (omega arith) (omega arith)
  merge_narrowest (suc more) c over = merged_narrowest c _ _ (merge_narrowest more c (λ i l u. over i l (omega arith))) (over (k + suc more) (omega arith) (omega arith))

  -- so it holds what any of them holds
  pub merge_widens : (more i : ℕ) → k ≤ i → i ≤ k + more → {s : List Bool} → cubes i ∋ s → merge cubes k more ∋ s
  merge_widens more i l u h = subsumes_widens _ (merge_covers more i l u) h

module _ (none : Cube) (cubes : ℕ → Cube) (size : ℕ) (sized : (k : ℕ) → length (cubes k) ≡ size) (k : ℕ) where
  pub merge_from_sized : length none ≡ size → (count : ℕ) → length (merge_from none cubes k count) ≡ size
  unfolding merge_from
  merge_from_sized e zero = e
  merge_from_sized e (suc more) = merge_sized cubes size sized k more

  pub merge_from_covers : (count i : ℕ) → k ≤ i → i < k + count → subsumes (merge_from none cubes k count) (cubes i) ≡ true
  unfolding merge_from
  merge_from_covers zero i l u = absurd (omega arith)
  merge_from_covers (suc more) i l u = merge_covers cubes size sized k more i l (omega arith)

  pub merge_from_narrowest : (count : ℕ) → 0 < count → (c : Cube) → ((i : ℕ) → k ≤ i → i < k + count → subsumes c (cubes i) ≡ true) → subsumes c (merge_from none cubes k count) ≡ true
  unfolding merge_from
  merge_from_narrowest zero some c over = absurd (omega arith)
  merge_from_narrowest (suc more) some c over = merge_narrowest cubes size sized k more c (λ i l u. over i l (omega arith))

  pub merge_from_widens : (count i : ℕ) → k ≤ i → i < k + count → {s : List Bool} → cubes i ∋ s → merge_from none cubes k count ∋ s
  merge_from_widens count i l u h = subsumes_widens _ (merge_from_covers count i l u) h

-- ---- the cubes of a run

pub reached_sized : (c : Circuit) (s : Stage) → length (reached c s) ≡ length c.latches
unfolding reached next_cube hold
reached_sized c s = length_adjust _ _ _ ∙ next_sized ternary c _ _

module _ (c : Circuit) (w : ℕ) where
  pub cube_sized : (k : ℕ) → length (cube_at c w k) ≡ length c.latches
  unfolding cube_at stage store start resets hold
  cube_sized zero = length-map (resets c) _ ∙ length-map c.latches _
  cube_sized (suc k) = length_adjust _ _ _ ∙ reached_sized c (stage c w k)

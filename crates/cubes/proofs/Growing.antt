-- From cube w − 1 on each cube of a run contains the one before it: cube w does, being widened; after it because the next state
-- is monotone and what is held stays held. Assumes nothing.
use mathlib.Core.Path.{◌≡◌, refl, sym, ◌∙◌}
use mathlib.Core.Bool.{Bool, true, false, not, ◌||◌}
use mathlib.Core.List.{List, [], ◌∷◌, zip_with}
use Prim.Native.Nat.{ℕ, zero, suc, ◌≤◌}
use native.Mathlib.Nat.{mod_self}
use native.Mathlib.Decide.{dec_le}
use native.Mathlib.Omega.{arith}
use lib.ListN.{length, length-map}
use Rattle.three.specs.Lists.{adjust, Each, empty, also}
use Rattle.three.specs.Value.{Three, code}
use Rattle.three.specs.Cube.{Cube, alike, allows, subsumes, blank}
use Rattle.three.proofs.Lists.{length_adjust, each_self, each_adjust}
use Rattle.three.proofs.Fields.{of_two, allows_self}
use Rattle.three.proofs.Subsuming.{Wider, each_subsumes, subsumes_trans}
use Rattle.circuit.specs.Circuit.{Circuit}
use Rattle.circuit.proofs.Narrow.{readings_wider}
use Rattle.cubes.specs.Run.{hold, differing, due, switches_unknown, next_cube, Stage, reached, widened, store, stage, cube_at}
use Rattle.cubes.proofs.Wider.{reached_sized, cube_sized}

-- ---- what is held stays held

-- a latch held now, and before
data Stays : Bool → Bool → Type 0 where
  held : {before : Bool} → Stays true before
  free : {now : Bool} → Stays now false

stays_self : (h : Bool) → Stays h h
stays_self true = held
stays_self false = free

or_stays : {now before : Bool} (d : Bool) → Stays now before → Stays (now || d) before
or_stays d held = held
or_stays d free = free

widened_stays : (d : Bool) (s : Stage) (b : Cube) → Each Stays (widened d s b) s.held
unfolding widened
widened_stays false s b = each_self stays_self s.held
widened_stays true s b = each_adjust ◌||◌ (λ now before d. or_stays d) (each_self stays_self s.held) _

widened_sized : (d : Bool) (s : Stage) (b : Cube) → length (widened d s b) ≡ length s.held
unfolding widened
widened_sized true s b = length_adjust ◌||◌ s.held (differing s.cube b)
widened_sized false s b = refl

-- ---- holding widens, more so the wider of two cubes and the more latches are held

blank_wider : {now before : Bool} → Stays now before → (a b : Three) → Wider a b → Wider (blank a now) (blank b before)
unfolding blank allows alike code
blank_wider held a b e = refl
blank_wider (free {now = true}) a b e = refl
blank_wider (free {now = false}) a b e = e

hold_wider : {now before : List Bool} → Each Stays now before → {a b : Cube} → Each Wider a b → Each Wider (hold now a) (hold before b)
unfolding hold adjust
hold_wider ss empty = empty
hold_wider empty (also e es) = also e es
hold_wider (also s ss) (also {a = x} {b = y} e es) = also (blank_wider s x y e) (hold_wider ss es)

pub hold_contains : (now : List Bool) (b : Cube) → Each Wider (hold now b) b
unfolding hold blank
hold_contains now b = each_adjust blank (λ x y d. blank_wider (free {now = d}) x y) (each_self allows_self b) now

-- b, with the latches held whose value in a and b differs, contains a
differing_wider : (h : Bool) (x y : Three) → Wider (blank y (h || not (alike x y))) x
unfolding blank allows alike code
differing_wider true x y = refl
differing_wider false x y = of_two (λ x y. allows (blank y (not (alike x y))) x) refl x y

differing_contains : (hs : List Bool) (a b : Cube) → length hs ≡ length a → length b ≡ length a
    → Each Wider (hold (adjust ◌||◌ hs (differing a b)) b) a
unfolding hold adjust differing zip_with
differing_contains hs [] [] e f = empty
differing_contains hs [] (y ∷ b) e f = absurd (omega arith)
differing_contains hs (x ∷ a) [] e f = absurd (omega arith)
differing_contains [] (x ∷ a) (y ∷ b) e f = absurd (omega arith)
differing_contains (h ∷ hs) (x ∷ a) (y ∷ b) e f = also (differing_wider h x y) (differing_contains hs a b (omega arith) (omega arith))

-- ---- the cubes of a run

due_itself : (k : ℕ) → due (suc k) (suc k) ≡ true
unfolding due
due_itself k = rw mod_self

module _ (c : Circuit) (w : ℕ) where
  -- cube k + 1 contains cube k
  abbrev pub Grows : ℕ → Type 0
  Grows k = Each Wider (cube_at c w (suc k)) (cube_at c w k)

  -- b contains the next state of cube k, and the cube stored next contains b
  pub next_reached : (k : ℕ) → subsumes (reached c (stage c w k)) (next_cube c (cube_at c w k)) ≡ true
  unfolding reached cube_at
  next_reached k = each_subsumes (hold_contains (stage c w k).held _)

  pub next_stored : (k : ℕ) → subsumes (cube_at c w (suc k)) (next_cube c (cube_at c w k)) ≡ true
  next_stored k = subsumes_trans (cube_at c w (suc k)) (reached c (stage c w k)) _ (unfold cube_at stage store in each_subsumes (hold_contains _ (reached c (stage c w k)))) (next_reached k)

  pub held_sized : (k : ℕ) → length (stage c w k).held ≡ length c.latches
  unfolding stage store
  held_sized zero = length-map c.latches _
  held_sized (suc k) = widened_sized _ (stage c w k) _ ∙ held_sized k

  held_stays : (k : ℕ) → Each Stays (stage c w (suc k)).held (stage c w k).held
  unfolding stage store
  held_stays k = widened_stays (due w (suc k)) (stage c w k) _

  grows_due : (k : ℕ) → w ≡ suc k → Grows k
  unfolding cube_at stage store widened
  grows_due k e =
      let is_due_lem : due w (suc k) ≡ true = rw e (due_itself k) in
      rw is_due_lem (differing_contains (stage c w k).held (cube_at c w k) _ (held_sized k ∙ sym (cube_sized c w k)) (reached_sized c (stage c w k) ∙ sym (cube_sized c w k)))

  grows_on : (k : ℕ) → Grows k → Grows (suc k)
  unfolding cube_at stage store reached next_cube
  grows_on k h = hold_wider (held_stays (suc k)) (hold_wider (held_stays k) (readings_wider c _ (switches_unknown c) h))

  pub grows : (k : ℕ) → 1 ≤ w → w ≤ suc k → Grows k
  grows zero pos h = grows_due 0 (omega arith)
  grows (suc k) pos h = go (dec_le w (suc k)) (grows k pos)
    where
      go : Dec (w ≤ suc k) → (w ≤ suc k → Grows k) → Grows (suc k)
      go (yes before) rest = grows_on k (rest before)
      go (no now) rest = grows_due (suc k) (omega arith)

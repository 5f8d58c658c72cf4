-- A run's outcome, and its cubes as they stand in the buffer: verdict and settled record depend on them alone. Assumes nothing.
use mathlib.Core.Path.{◌≡◌, refl, ap, ap₂, ◌∙◌}
use mathlib.Core.Bool.{true, false, true≢false, false≢true}
use mathlib.Core.List.{List}
use Prim.Native.Nat.{ℕ, zero, suc, ◌+◌, ◌-◌, ◌<◌, ◌≤◌}
use native.Mathlib.Omega.{arith}
use lib.ListN.{length, length-append, length-replicate}
use Rattle.three.specs.Lists.{over}
use Rattle.three.specs.Cube.{Cube, merged}
use Rattle.circuit.specs.declared.Counts.{Counts}
use Rattle.circuit.specs.Circuit.{Circuit}
use Rattle.circuit.specs.Table.{verdicts, circuit_of}
use Rattle.cubes.specs.Run.{next_cube, lamps_in, watched, watched_in, cube_at, Ending, stops, full, run, merge, verdict, settled, merge_from}
use Rattle.cubes.specs.Buffer.{cube_in, pack_cubes, marked}
use Rattle.cubes.specs.Chain.{stored_cubes, back_to, outcome_number}
use Rattle.cubes.specs.OutcomesInCode.{has_stopped}
use Rattle.cubes.proofs.Steps.{Ran, dead, stays, closes, ran}
use Rattle.cubes.proofs.Storing.{stored_cube}
use Rattle.three.proofs.Lists.{length_tabulate}
use Rattle.cubes.proofs.Wider.{cube_sized, merge_from_sized}
use Rattle.circuit.proofs.Pass.{readings_sized, next_sized}
use Rattle.three.specs.Value.{ternary}

-- ---- outcomes

pub stopped_is : (room : ℕ) (o : Ending) → has_stopped o ≡ true → o ≡ stops (stored_cubes room o) (back_to o)
unfolding has_stopped stored_cubes back_to
stopped_is room (stops n j) e = refl
stopped_is room full e = absurd (false≢true e)

pub full_is : (o : Ending) → has_stopped o ≡ false → (15 ≡ outcome_number o) × (0 ≡ back_to o)
unfolding has_stopped outcome_number back_to
full_is (stops n j) e = absurd (true≢false e)
full_is full e = (refl, refl)

pub stopped_number : (o : Ending) → has_stopped o ≡ true → 0 ≡ outcome_number o
unfolding has_stopped outcome_number
stopped_number (stops n j) e = refl
stopped_number full e = absurd (false≢true e)

-- the cubes of a run that stops have room
module _ (c : Circuit) (w : ℕ) where
  ran_within : {room n j : ℕ} → Ran c w room (stops n j) → n ≤ room
  ran_within (dead e) = omega arith
  ran_within (stays past) = omega (arith, ran_within past)
  ran_within (closes past l) = omega arith

  pub stopped_within : (room : ℕ) → has_stopped (run c w room) ≡ true → stored_cubes room (run c w room) ≤ room
  unfolding has_stopped stored_cubes
  stopped_within room e = go (run c w room) (ran c w room) e
    where
      go : (o : Ending) → Ran c w room o → has_stopped o ≡ true → stored_cubes room o ≤ room
      go (stops n j) r h = ran_within r
      go full r h = absurd (false≢true h)

-- ---- verdict and settled record depend on the first n cubes alone

merge_same : (f f' : ℕ → Cube) (base more : ℕ) → ((k : ℕ) → base ≤ k → k ≤ base + more → f k ≡ f' k) → merge f base more ≡ merge f' base more
unfolding merge
merge_same f f' base zero same = same base (omega arith) (omega arith)
merge_same f f' base (suc more) same = ap₂ merged (merge_same f f' base more (λ k l h. same k l (omega arith))) (same (base + suc more) (omega arith) (omega arith))

merge_from_same : (none : Cube) (f f' : ℕ → Cube) (base count : ℕ) → ((k : ℕ) → base ≤ k → k < base + count → f k ≡ f' k) → merge_from none f base count ≡ merge_from none f' base count
unfolding merge_from
merge_from_same none f f' base zero same = refl
merge_from_same none f f' base (suc more) same = merge_same f f' base more (λ k l h. same k l (omega arith))

module _ (c : Circuit) (f f' : ℕ → Cube) (n : ℕ) (same : (k : ℕ) → k < n → f k ≡ f' k) where
  pub verdict_same : verdict c f n ≡ verdict c f' n
  unfolding verdict
  verdict_same = merge_from_same _ _ _ 0 n (λ k l h. ap (watched_in c) (same k (omega arith)))

  pub settled_same : (j : ℕ) → settled c f n j ≡ settled c f' n j
  unfolding settled
  settled_same j = merge_from_same _ f f' j (n - j) (λ k l h. same k (omega arith))

-- ---- the cubes in the buffer

-- a field for each lamp, for each of what gets a verdict, and for each latch
pub literals_counted : (c : Counts) (words : List ℕ) → length (circuit_of c words).lamps ≡ c.lamps
unfolding circuit_of
literals_counted c words = length_tabulate c.lamps _

pub lamps_counted : (c : Counts) (words : List ℕ) (v : Cube) → length (lamps_in (circuit_of c words) v) ≡ c.lamps
unfolding lamps_in circuit_of
lamps_counted c words v = readings_sized ternary _ _ _ _ ∙ length_tabulate c.lamps _

pub verdicts_counted : (c : Counts) (words : List ℕ) → length (watched (circuit_of c words)) ≡ verdicts c
unfolding watched circuit_of
verdicts_counted c words = rw length-append (ap₂ ◌+◌ (length_tabulate c.lamps _) (length_tabulate c.bads _))

pub watched_counted : (c : Counts) (words : List ℕ) (v : Cube) → length (watched_in (circuit_of c words) v) ≡ verdicts c
unfolding watched_in
watched_counted c words v = readings_sized ternary _ _ _ _ ∙ verdicts_counted c words

pub latches_counted : (c : Counts) (words : List ℕ) → length (circuit_of c words).latches ≡ c.latches
unfolding circuit_of
latches_counted c words = length_tabulate c.latches _

pub next_counted : (c : Counts) (words : List ℕ) (v : Cube) → length (next_cube (circuit_of c words) v) ≡ c.latches
unfolding next_cube
next_counted c words v = next_sized ternary (circuit_of c words) _ _ ∙ latches_counted c words

pub verdict_sized : (c : Counts) (words : List ℕ) (cubes : ℕ → Cube) (n : ℕ) → length (verdict (circuit_of c words) cubes n) ≡ verdicts c
unfolding verdict
verdict_sized c words cubes n =
    merge_from_sized _ _ (verdicts c) (λ k. watched_counted c words _) 0 (length-replicate (length (watched (circuit_of c words))) _ ∙ verdicts_counted c words) n

pub settled_sized : (c : Counts) (words : List ℕ) (cubes : ℕ → Cube) → ((k : ℕ) → length (cubes k) ≡ c.latches) → (n j : ℕ) → length (settled (circuit_of c words) cubes n j) ≡ c.latches
unfolding settled
settled_sized c words cubes sized n j =
    merge_from_sized _ _ c.latches sized j (length-replicate (length (circuit_of c words).latches) _ ∙ latches_counted c words) (n - j)

module _ (c : Counts) (words : List ℕ) (w : ℕ) where
  abbrev circuit : Circuit
  circuit = circuit_of c words

  pub cubes_sized : (k : ℕ) → length (cube_at circuit w k) ≡ c.latches
  cubes_sized k = cube_sized circuit w k ∙ latches_counted c words

  module _ (buffer : List ℕ) (n : ℕ) (cubes : List ℕ) (fills : cubes ≡ over (pack_cubes (marked w) (cube_at circuit w) n) buffer) where
    pub cube_in_lem : (k : ℕ) → k < n → cube_in c.latches cubes k ≡ cube_at circuit w k
    cube_in_lem k h =
        ap (λ (l : List ℕ). cube_in c.latches l k) fills
        ∙ stored_cube c.latches (marked w) (cube_at circuit w) cubes_sized buffer n k h

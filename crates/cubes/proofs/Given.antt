-- The tests of given cubes: 10 and 14, and what holds of cubes that pass them. Assumes nothing.
use mathlib.Core.Path.{◌≡◌, refl, ap, ◌∙◌}
use mathlib.Core.Bool.{true, false}
use mathlib.Core.List.{List, ◌++◌, append_assoc}
use Prim.Native.Nat.{ℕ, ◌*◌, ◌/◌, ◌<◌, ◌≤◌}
use native.Mathlib.Nat.{mul-le-mul_right, div-mul-le_self}
use native.Mathlib.Omega.{arith}
use borrow.Author.Tests.{le-leb, lt-leb, leb-true}
use lib.ListN.{length, length-drop}
use Rattle.three.specs.Lists.{every}
use Rattle.three.proofs.Lists.{every_at}
use Rattle.circuit.specs.declared.Counts.{Counts}
use Rattle.circuit.specs.Refusal.{Test, refusal}
use Rattle.circuit.specs.Table.{board_tests}
use Rattle.circuit.specs.RulesInCode.{Legal}
use Rattle.circuit.proofs.Refusals.{Numbered, stops, past, none, passes, none_append, refuses_whole, none_past}
use Rattle.circuit.proofs.Legality.{board_numbered, board_legal}
use Rattle.cubes.specs.Buffer.{cube_bytes, sound_in}
use Rattle.cubes.specs.BufferInCode.{Cubes}
use Rattle.cubes.specs.Chain.{room_in}
use Rattle.cubes.specs.Given.{cube_tests}
use Rattle.cubes.specs.GivenInCode.{given_tests}
use Rattle.cubes.proofs.Storing.{cube_place}

pub room_is : (c : Counts) (cubes : List ℕ) {len : ℕ} → len ≡ cube_bytes c.latches → length cubes / len ≡ room_in c cubes
unfolding room_in
room_is c cubes e = rw e

module _ (c : Counts) (cubes : List ℕ) (n : ℕ) where
  pub cubes_short : room_in c cubes < n → 10 ≡ refusal (cube_tests c cubes n)
  unfolding cube_tests
  cubes_short h = stops _ _ (lt-leb n (room_in c cubes) h)

  pub cubes_bad : n ≤ room_in c cubes → every n (sound_in c.latches cubes) ≡ false → 14 ≡ refusal (cube_tests c cubes n)
  unfolding cube_tests
  cubes_bad l h = past _ _ (le-leb n (room_in c cubes) l) (stops _ _ h)

  pub cubes_pass : n ≤ room_in c cubes → every n (sound_in c.latches cubes) ≡ true → 0 ≡ refusal (cube_tests c cubes n)
  unfolding cube_tests
  cubes_pass l h = past _ _ (le-leb n (room_in c cubes) l) (past _ _ h none)

  pub cubes_numbered : Numbered (cube_tests c cubes n)
  unfolding cube_tests
  cubes_numbered = omega arith

  pub cubes_given : 0 ≡ refusal (cube_tests c cubes n) → (n ≤ room_in c cubes) × (every n (sound_in c.latches cubes) ≡ true)
  unfolding cube_tests
  cubes_given e = let p = passes (cube_tests c cubes n) cubes_numbered e in (leb-true n (room_in c cubes) p.0, p.1.0)

  -- n cubes that are no more than there is room for: no product is formed before that is known
  pub cubes_fit : n ≤ room_in c cubes → n * cube_bytes c.latches ≤ length cubes
  unfolding room_in
  cubes_fit few = omega (arith, mul-le-mul_right (cube_bytes c.latches) few, div-mul-le_self (length cubes) (cube_bytes c.latches))

  pub cubes_stand : n ≤ room_in c cubes → every n (sound_in c.latches cubes) ≡ true → Cubes c.latches (cube_bytes c.latches) n cubes
  unfolding sound_in
  cubes_stand few good = record {
    size = refl;
    fits = cubes_fit few;
    cube = λ k h. record {
      fits = rw length-drop (omega (arith, cube_place n (cube_bytes c.latches) k (length cubes) h (cubes_fit few)));
      good = every_at n (sound_in c.latches cubes) good k h;
    };
  }

-- ---- behind the table's tests, and before those that look into the cubes

module _ (c : Counts) (table cubes : List ℕ) (n : ℕ) where
  pub given_refuses : (ts : List Test) (k : ℕ) → k ≡ refusal (given_tests c table cubes n) → (k ≡ 0 → ⊥) → k ≡ refusal (board_tests c table ++ (cube_tests c cubes n ++ ts))
  given_refuses ts k e h = refuses_whole (given_tests c table cubes n) ts k e h ∙ ap refusal (append_assoc (board_tests c table) (cube_tests c cubes n) ts)

  pub given_passes : 0 ≡ refusal (given_tests c table cubes n) → Legal c table × Cubes c.latches (cube_bytes c.latches) n cubes
  given_passes ok =
      let p = none_append (board_tests c table) (cube_tests c cubes n) (board_numbered c table) ok in
      let are = cubes_given c cubes n p.1 in
      (board_legal c table p.0, cubes_stand c cubes n are.0 are.1)

  -- where they pass the tests behind them decide
  pub past_given : (ts : List Test) → 0 ≡ refusal (given_tests c table cubes n) → {k : ℕ} → k ≡ refusal ts → k ≡ refusal (board_tests c table ++ (cube_tests c cubes n ++ ts))
  past_given ts ok e =
      let p = none_append (board_tests c table) (cube_tests c cubes n) (board_numbered c table) ok in
      none_past (board_tests c table) _ (board_numbered c table) p.0 (none_past (cube_tests c cubes n) ts (cubes_numbered c cubes n) p.1 e)

  pub behind_given : (ts : List Test) → 0 ≡ refusal (board_tests c table ++ (cube_tests c cubes n ++ ts)) → 0 ≡ refusal ts
  behind_given ts e =
      let p = none_append (board_tests c table) _ (board_numbered c table) e in
      (none_append (cube_tests c cubes n) ts (cubes_numbered c cubes n) p.1).1

-- What literals are in a cube, with all switches X, holds what they really are: a tick is sound. Assumes nothing.
use mathlib.Core.Path.{◌≡◌, refl}
use mathlib.Core.Bool.{Bool, true, false}
use mathlib.Core.List.{List, [], ◌∷◌}
use Prim.Native.Nat.{ℕ, zero, suc}
use native.Mathlib.Omega.{arith}
use lib.ListN.{length, get_or, replicate}
use Rattle.three.specs.Lists.{empty, also}
use Rattle.three.specs.Value.{unknown, known, boolean, ternary}
use Rattle.three.specs.Cube.{Cube, Holds, any, off, on, ◌∋◌}
use Rattle.three.proofs.Lists.{length_tabulate, each_get_or}
use Rattle.circuit.specs.Circuit.{Circuit, readings, lamps}
use Rattle.circuit.proofs.Sound.{readings_sound}
use Rattle.circuit.proofs.Pass.{readings_sized}
use Rattle.cubes.specs.Run.{switches_unknown, next_cube, lamps_in, watched, watched_in}
use Rattle.cubes.specs.Execution.{Execution, settings, state_after, read_after, watched_after}

-- ---- one tick with all switches X

pub any_switches : (n : ℕ) (r : List Bool) → length r ≡ n → replicate n unknown ∋ r
any_switches zero [] e = empty
any_switches zero (b ∷ r) e = absurd (omega arith)
any_switches (suc n) [] e = absurd (omega arith)
any_switches (suc n) (b ∷ r) e = also any (any_switches n r (omega arith))

module _ (c : Circuit) {cube : Cube} {state : List Bool} (within : cube ∋ state) (r : List Bool) (sized : length r ≡ c.inputs) where
  readings_within : (literals : List ℕ) → readings ternary c literals (switches_unknown c) cube ∋ readings boolean c literals r state
  unfolding switches_unknown
  readings_within literals = readings_sound c literals _ _ _ _ (any_switches c.inputs r sized) within

  pub lamps_within : lamps_in c cube ∋ lamps boolean c r state
  unfolding lamps_in
  lamps_within = readings_within c.lamps

module _ {c : Circuit} (e : Execution c) (t : ℕ) {a : Cube} (within : a ∋ state_after e t) where
  settings_sized : length (settings e t) ≡ c.inputs
  unfolding settings
  settings_sized = length_tabulate c.inputs _

  pub read_within : (literals : List ℕ) → readings ternary c literals (switches_unknown c) a ∋ read_after e literals t
  unfolding read_after
  read_within literals = readings_within c within (settings e t) settings_sized literals

  pub next_within : next_cube c a ∋ state_after e (suc t)
  unfolding next_cube state_after
  next_within = readings_within c within (settings e t) settings_sized _

  pub watched_within : watched_in c a ∋ watched_after e t
  unfolding watched_in
  watched_within = read_within (watched c)

pub lamps_sized : (c : Circuit) (a : Cube) → length (lamps_in c a) ≡ length c.lamps
unfolding lamps_in
lamps_sized c a = readings_sized ternary c _ _ _

pub watched_sized : (c : Circuit) (a : Cube) → length (watched_in c a) ≡ length (watched c)
unfolding watched_in
watched_sized c a = readings_sized ternary c _ _ _

-- ---- known fields

-- a known field holds its own bit alone
known_alone : (v : Bool) {b : Bool} → Holds (known v) b → b ≡ v
unfolding known
known_alone false off = refl
known_alone true on = refl

pub known_at : {cube : Cube} {state : List Bool} → cube ∋ state → (i : ℕ) (v : Bool) → get_or cube i unknown ≡ known v → get_or state i false ≡ v
known_at within i v e = known_alone v (rw e at (each_get_or within {e = false} any i))

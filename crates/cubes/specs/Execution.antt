-- What really happens: a Boolean execution under any switch sequence, from a state that the resets allow, and at which ticks it is legal. Assumes nothing.
use Rattle.std.specs.Prelude.{◌≡◌, Bool, true, false, ◌&&◌, List, [], ◌∷◌, ℕ, zero, suc, ◌≤◌}
use Rattle.three.specs.Lists.{tabulate, Each}
use Rattle.three.specs.Value.{boolean}
use Rattle.circuit.specs.Circuit.{Circuit, readings, next}
use Rattle.cubes.specs.Run.{resets, watched}

-- a reset of 0 or 1 allows that bit alone, and no start value (2) allows either
pub data Allows : ℕ → Bool → Type 0 where
  off : Allows 0 false
  on : Allows 1 true
  free : {b : Bool} → Allows 2 b

-- `switches t i` is switch i at tick t
pub record Execution (c : Circuit) : Type 0 where
  pub switches : ℕ → ℕ → Bool
  pub first : List Bool
  pub allowed : Each Allows (resets c) first

-- every bit is 1
unfoldable pub all_lit : List Bool → Bool
all_lit [] = true
all_lit (b ∷ bs) = b && all_lit bs

module _ {c : Circuit} (e : Execution c) where
  -- the switch settings at tick t
  unfoldable pub settings : ℕ → List Bool
  settings t = tabulate c.inputs (e.switches t)

  -- the state after t ticks
  unfoldable pub state_after : ℕ → List Bool
  state_after zero = e.first
  state_after (suc t) = next boolean c (settings t) (state_after t)

  -- what literals are at tick t: the lamps, the bad states, both of them
  unfoldable pub read_after : List ℕ → ℕ → List Bool
  read_after literals t = readings boolean c literals (settings t) (state_after t)

  abbrev pub lamps_after : ℕ → List Bool
  lamps_after t = read_after c.lamps t

  abbrev pub bads_after : ℕ → List Bool
  bads_after t = read_after c.bads t

  abbrev pub watched_after : ℕ → List Bool
  watched_after t = read_after (watched c) t

  -- legal at tick t: each constraint is 1 at the ticks 0 to t
  abbrev pub Lawful : ℕ → Type 0
  Lawful t = (u : ℕ) → u ≤ t → all_lit (read_after c.constraints u) ≡ true

-- The run (specification, 5.1 to 5.7): cubes from the resets on, until one falls inside a stored one or a constraint is 0 in it. Assumes nothing.
use Rattle.std.specs.Prelude.{Bool, true, false, not, cond, ◌||◌, ℕ, zero, suc, ◌+◌, ◌-◌, ◌%◌, length, replicate, eqb}
use mathlib.Core.List.{List, [], ◌∷◌, ◌++◌, map, zip_with}
use Rattle.three.specs.Lists.{adjust}
use Rattle.three.specs.Value.{Three, unknown, low, high, ternary}
use Rattle.three.specs.Cube.{Cube, alike, subsumes, blank, merged}
use Rattle.circuit.specs.Circuit.{Circuit, Latch, readings, next, lamps, constraints}

-- held latches set to X
unfoldable pub hold : List Bool → Cube → Cube
hold held b = adjust blank b held

-- the latches whose value in a and b differs
unfoldable pub differing : Cube → Cube → List Bool
differing = zip_with (λ x y. not (alike x y))

-- w is not 0 and divides k
unfoldable pub due : ℕ → ℕ → Bool
due w k = elim w [ zero ↦ false | suc v ↦ eqb (k % suc v) 0 ]

-- all switches are X
unfoldable pub switches_unknown : Circuit → Cube
switches_unknown c = replicate c.inputs unknown

-- the next state of a cube
unfoldable pub next_cube : Circuit → Cube → Cube
next_cube c a = next ternary c (switches_unknown c) a

-- the lamps in a cube
unfoldable pub lamps_in : Circuit → Cube → Cube
lamps_in c a = lamps ternary c (switches_unknown c) a

-- the literals that get verdicts, the lamps and then the bad states, and what they are in a cube
unfoldable pub watched : Circuit → List ℕ
watched c = c.lamps ++ c.bads

unfoldable pub watched_in : Circuit → Cube → Cube
watched_in c a = readings ternary c (watched c) (switches_unknown c) a

-- some value is 0
unfoldable pub some_low : Cube → Bool
some_low [] = false
some_low (v ∷ vs) = alike v low || some_low vs

-- some constraint is 0 in a cube: no legal execution is there
unfoldable pub blocked : Circuit → Cube → Bool
blocked c a = some_low (constraints ternary c (switches_unknown c) a)

-- a reset as a field: X where there is no start value
unfoldable pub start_field : ℕ → Three
start_field reset = elim reset [ zero ↦ low | suc r ↦ elim r [ zero ↦ high | suc n ↦ unknown ] ]

unfoldable pub resets : Circuit → List ℕ
resets c = map (λ (l : Latch). l.reset) c.latches

-- cube 0 is the resets
unfoldable pub start : Circuit → Cube
start c = map start_field (resets c)

-- a stored cube, and which latches are held unknown once it is stored
pub record Stage : Type 0 where
  pub cube : Cube
  pub held : List Bool

-- b: the next state of the last cube, with held latches set to X
unfoldable pub reached : Circuit → Stage → Cube
reached c s = hold s.held (next_cube c s.cube)

-- which latches are held once b is stored: where b is due, every latch whose value in a and b differs too
unfoldable pub widened : Bool → Stage → Cube → List Bool
widened d s b = elim d [ false ↦ s.held | true ↦ adjust ◌||◌ s.held (differing s.cube b) ]

-- b stored, due (true) or not
unfoldable pub store : Bool → Stage → Cube → Stage
store d s b = let held' : List Bool = widened d s b in record { cube = hold held' b; held = held' }

-- what a search gives
pub data Found : Type 0 where
  at : ℕ → Found
  nowhere : Found

-- the first of the cubes 0 to n − 1 that subsumes b
unfoldable pub search : (ℕ → Cube) → ℕ → Cube → Found
search cubes zero b = nowhere
search cubes (suc n) b =
    elim (search cubes n b) [ at j ↦ at j | nowhere ↦ elim (subsumes (cubes n) b) [ true ↦ at n | false ↦ nowhere ] ]

-- a run stops with n cubes, closed back to j below n or, where j = n, ended; or it has no room for the next cube
pub data Ending : Type 0 where
  stops : ℕ → ℕ → Ending
  full : Ending

-- with one cube more, by where b goes
unfoldable pub stepped : ℕ → Ending → Found → Ending
stepped n (stops m j) f = stops m j
stepped n full f = elim f [ at j ↦ stops n j | nowhere ↦ full ]

module _ (c : Circuit) (w : ℕ) where
  -- cube number k and what is held with it, however long the run goes on
  unfoldable pub stage : ℕ → Stage
  stage zero = record { cube = start c; held = map (λ (l : Latch). false) c.latches }
  stage (suc k) = let s : Stage = stage k in store (due w (suc k)) s (reached c s)

  -- cube number k
  unfoldable pub cube_at : ℕ → Cube
  cube_at k = (stage k).cube

  -- where b after cube number k goes: to number k + 1, which is an end, where a constraint is 0 in it, else to the first of the cubes up to k that subsumes it
  unfoldable pub back : ℕ → Found
  back k = let b : Cube = reached c (stage k) in cond (blocked c b) (at (suc k)) (search cube_at (suc k) b)

  -- the run with room for so many cubes; where a constraint is 0 in cube 0 it ends with none
  unfoldable pub run : ℕ → Ending
  run zero = cond (blocked c (start c)) (stops 0 0) full
  run (suc k) = stepped (suc k) (run k) (back k)

-- the merge of cubes k, k + 1, .., k + more: what is known alike in all of them
unfoldable pub merge : (ℕ → Cube) → ℕ → ℕ → Cube
merge cubes k zero = cubes k
merge cubes k (suc more) = merged (merge cubes k more) (cubes (k + suc more))

-- the merge of so many cubes from number k on, and what stands where there is none
unfoldable pub merge_from : Cube → (ℕ → Cube) → ℕ → ℕ → Cube
merge_from none cubes k n = elim n [ zero ↦ none | suc more ↦ merge cubes k more ]

-- per lamp and bad state never (low) if 0 in all n cubes, always (high) if 1 in all, else open (unknown); with no cube never
unfoldable pub verdict : Circuit → (ℕ → Cube) → ℕ → Cube
verdict c cubes n = merge_from (replicate (length (watched c)) low) (λ k. watched_in c (cubes k)) 0 n

-- the merge of the loop's cubes, j to n − 1: per latch the value that all of them know alike, else unknown; an ended run, where j = n, has none of these and settles nothing
unfoldable pub settled : Circuit → (ℕ → Cube) → ℕ → ℕ → Cube
settled c cubes n j = merge_from (replicate (length c.latches) unknown) cubes j (n - j)

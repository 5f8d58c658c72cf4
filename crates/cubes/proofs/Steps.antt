-- What a search and a run did, told step by step, so that a proof goes through the steps by cases. Assumes nothing.
use mathlib.Core.Path.{◌≡◌, refl, ap, ap₂}
use mathlib.Core.Bool.{Bool, true, false, cond}
use Prim.Native.Nat.{ℕ, zero, suc, ◌+◌, ◌<◌}
use native.Mathlib.Nat.{add-zero, add-suc}
use native.Mathlib.Decide.{dec_lt}
use native.Mathlib.Omega.{arith}
use Rattle.three.specs.Cube.{Cube, subsumes}
use Rattle.circuit.specs.Circuit.{Circuit}
use Rattle.cubes.specs.Run.{blocked, start, reached, stage, cube_at, Found, at, nowhere, search, Ending, stops, full, back, run, stepped}

module _ (cubes : ℕ → Cube) (b : Cube) where
  -- a search through the first n cubes, and its result
  pub data Searched : ℕ → Found → Type 0 where
    nothing : Searched 0 nowhere
    before : {n j : ℕ} → Searched n (at j) → Searched (suc n) (at j)
    here : {n : ℕ} → Searched n nowhere → subsumes (cubes n) b ≡ true → Searched (suc n) (at n)
    not_here : {n : ℕ} → Searched n nowhere → subsumes (cubes n) b ≡ false → Searched (suc n) nowhere

  pub searched : (n : ℕ) → Searched n (search cubes n b)
  unfolding search
  searched zero = nothing
  searched (suc n) = go (search cubes n b) (subsumes (cubes n) b) (searched n) refl
    where
      go : (f : Found) (s : Bool) → Searched n f → subsumes (cubes n) b ≡ s
          → Searched (suc n) (elim f [ at j ↦ at j | nowhere ↦ elim s [ true ↦ at n | false ↦ nowhere ] ])
      go (at j) s past e = before past
      go nowhere true past e = here past e
      go nowhere false past e = not_here past e

-- what is found is one of the cubes, and subsumes b
pub found : {cubes : ℕ → Cube} {b : Cube} {n j : ℕ} → Searched cubes b n (at j) → (j < n) × (subsumes (cubes j) b ≡ true)
found (before past) = let h = found past in (omega arith, h.1)
found (here past e) = (omega arith, e)

-- where nothing is found, the last cube does not subsume b
pub last_fails : {cubes : ℕ → Cube} {b : Cube} {n : ℕ} → Searched cubes b (suc n) nowhere → subsumes (cubes n) b ≡ false
last_fails (not_here past e) = e

-- where nothing is found no cube does, and none before the one that is found
pub none_at_all : {cubes : ℕ → Cube} {b : Cube} {n : ℕ} → Searched cubes b n nowhere → (m : ℕ) → m < n → subsumes (cubes m) b ≡ false
none_at_all nothing m h = absurd (omega arith)
none_at_all {cubes} {b} (not_here {n = n} past e) m h = go (dec_lt m n) (λ l. none_at_all past m l)
  where
    go : Dec (m < n) → (m < n → subsumes (cubes m) b ≡ false) → subsumes (cubes m) b ≡ false
    go (yes early) on = on early
    go (no late) on = let same : m ≡ n = omega arith in rw same e

pub none_before : {cubes : ℕ → Cube} {b : Cube} {n j : ℕ} → Searched cubes b n (at j) → (m : ℕ) → m < j → subsumes (cubes m) b ≡ false
none_before (before past) m h = none_before past m h
none_before (here past e) m h = none_at_all past m h

module _ (c : Circuit) (w : ℕ) where
  -- b after cube number k
  abbrev pub after : ℕ → Cube
  after k = reached c (stage c w k)

  -- where it goes: it ends the run, or is searched for
  pub data Looked (k : ℕ) : Found → Type 0 where
    ends : blocked c (after k) ≡ true → Looked k (at (suc k))
    looks : {f : Found} → blocked c (after k) ≡ false → Searched (cube_at c w) (after k) (suc k) f → Looked k f

  looked : (k : ℕ) → Looked k (back c w k)
  unfolding back
  looked k = go (blocked c (after k)) refl
    where
      go : (d : Bool) → blocked c (after k) ≡ d → Looked k (cond d (at (suc k)) (search (cube_at c w) (suc k) (after k)))
      go true e = ends e
      go false e = looks e (searched (cube_at c w) (after k) (suc k))

  -- where it goes nowhere no cube subsumes it
  pub nothing_found : {k : ℕ} → Looked k nowhere → Searched (cube_at c w) (after k) (suc k) nowhere
  nothing_found (looks free s) = s

  -- a run with so much room, and its outcome
  pub data Ran : ℕ → Ending → Type 0 where
    dead : blocked c (start c) ≡ true → Ran 0 (stops 0 0)
    begun : blocked c (start c) ≡ false → Ran 0 full
    stays : {k n j : ℕ} → Ran k (stops n j) → Ran (suc k) (stops n j)
    closes : {k j : ℕ} → Ran k full → Looked k (at j) → Ran (suc k) (stops (suc k) j)
    goes_on : {k : ℕ} → Ran k full → Looked k nowhere → Ran (suc k) full

  pub ran : (room : ℕ) → Ran room (run c w room)
  unfolding run stepped
  ran zero = go (blocked c (start c)) refl
    where
      go : (d : Bool) → blocked c (start c) ≡ d → Ran 0 (cond d (stops 0 0) full)
      go true e = dead e
      go false e = begun e
  ran (suc k) = go (run c w k) (back c w k) (ran k) (looked k)
    where
      go : (o : Ending) (f : Found) → Ran k o → Looked k f → Ran (suc k) (stepped (suc k) o f)
      go (stops n j) f past l = stays past
      go full (at j) past l = closes past l
      go full nowhere past l = goes_on past l

  -- where a constraint is 0 in cube 0 a run ends with none, whatever room there is
  pub run_dead : blocked c (start c) ≡ true → (room : ℕ) → run c w room ≡ stops 0 0
  unfolding run stepped
  run_dead e zero = rw e
  run_dead e (suc k) = ap (λ (o : Ending). stepped (suc k) o (back c w k)) (run_dead e k)

  pub run_begins : blocked c (start c) ≡ false → run c w 0 ≡ full
  unfolding run
  run_begins e = rw e

  -- one step of the run
  pub run_step : (k : ℕ) {f : Found} → run c w k ≡ full → back c w k ≡ f → run c w (suc k) ≡ stepped (suc k) full f
  unfolding run
  run_step k e g = ap₂ (stepped (suc k)) e g

  -- a run that stops stays so with more room
  pub run_stays : (k more n j : ℕ) → run c w k ≡ stops n j → run c w (k + more) ≡ stops n j
  unfolding run stepped
  run_stays k zero n j e = rw add-zero e
  run_stays k (suc more) n j e = rw add-suc (ap (λ (o : Ending). stepped (suc (k + more)) o (back c w (k + more))) (run_stays k more n j e))

-- When "open" can be trusted too (specification, 5.14): stored cubes that are single states. Assumes nothing.
use Rattle.std.specs.Prelude.{◌≡◌, Bool, true, false, List, [], map, ℕ, ◌+◌, ◌<◌, ◌≤◌, get_or}
use Rattle.three.specs.Value.{unknown, known}
use Rattle.three.specs.Cube.{Cube, known_fields}
use Rattle.three.specs.Record.{unpack}
use Rattle.circuit.specs.Circuit.{Circuit}
use Rattle.circuit.specs.Table.{verdicts}
use Rattle.cubes.specs.declared.ChainAnswer.{ChainAnswer}
use Rattle.cubes.specs.declared.JudgeAnswer.{JudgeAnswer}
use Rattle.cubes.specs.Run.{resets}
use Rattle.cubes.specs.Buffer.{cube_in}
use Rattle.cubes.specs.Chain.{ChainGiven, circuit_in as board_in}
use Rattle.cubes.specs.Judge.{JudgeGiven, circuit_in}
use Rattle.cubes.specs.Execution.{Execution, state_after, lamps_after, bads_after}

-- a board without switches and constraints, each of whose latches has a start value
pub record Certain (c : Circuit) : Type 0 where
  pub switchless : c.inputs ≡ 0
  pub unconstrained : c.constraints ≡ []
  pub started : (i : ℕ) → get_or (resets c) i 0 ≤ 1

module _ {c : Circuit} (cubes : ℕ → Cube) (n : ℕ) (e : Execution c) where
  pub record Exact : Type 0 where
    -- each stored cube is a single state, and that state occurs, at the tick of its number
    pub occurs : (k : ℕ) → k < n → cubes k ≡ map known (state_after e k)
    -- each state that occurs is stored
    pub stored : (t : ℕ) → (k : ℕ) × (k < n) × (cubes k ≡ map known (state_after e t))

-- number i of what is read at each tick is dark (false) or lit (true) at some tick below n
abbrev pub Sometimes : ℕ → (ℕ → List Bool) → ℕ → Bool → Type 0
Sometimes n read i v = (t : ℕ) × (t < n) × (get_or (read t) i false ≡ v)

-- What a closed chain promises of such a board where it does not widen
pub record Singles (g : ChainGiven) (r : ChainAnswer) (cubes : List ℕ) : Type 0 where
  pub exact : r.number ≡ 0 → g.w ≡ 0 → Certain (board_in g) → (e : Execution (board_in g)) → Exact (cube_in g.counts.latches cubes) r.cubes e

module _ (g : JudgeGiven) where
  abbrev given : ℕ → Cube
  given = cube_in g.counts.latches g.cubes

  -- no X in any of the given cubes
  abbrev pub NoX : Type 0
  NoX = (k : ℕ) → k < g.n → known_fields (given k) ≡ g.counts.latches

  -- What the judge promises of accepted cubes without X, whoever made them, where there is no constraint
  pub record Opens (r : JudgeAnswer) (verdict : List ℕ) : Type 0 where
    pub exact : r.number ≡ 0 → g.counts.constraints ≡ 0 → NoX → (e : Execution (circuit_in g)) → Exact given g.n e
    -- and where there is no switch, an open lamp is lit at some tick and dark at another
    pub opens : r.number ≡ 0 → g.counts.constraints ≡ 0 → NoX → (circuit_in g).inputs ≡ 0 → (e : Execution (circuit_in g)) → (i : ℕ) → i < g.counts.lamps
        → get_or (unpack g.counts.lamps verdict) i unknown ≡ unknown → Sometimes g.n (lamps_after e) i true × Sometimes g.n (lamps_after e) i false
    -- and so is an open bad state
    pub opens_bad : r.number ≡ 0 → g.counts.constraints ≡ 0 → NoX → (circuit_in g).inputs ≡ 0 → (e : Execution (circuit_in g)) → (i : ℕ) → i < g.counts.bads
        → get_or (unpack (verdicts g.counts) verdict) (g.counts.lamps + i) unknown ≡ unknown → Sometimes g.n (bads_after e) i true × Sometimes g.n (bads_after e) i false

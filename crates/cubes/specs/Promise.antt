-- What chain and judge promise (specification, 5.10), over the answers and the bytes that the calls are given and leave. Assumes nothing.
use Rattle.std.specs.Prelude.{◌≡◌, Bool, false, List, ℕ, zero, suc, ◌+◌, ◌*◌, ◌-◌, ◌%◌, ◌<◌, ◌≤◌, get_or}
use Rattle.three.specs.Value.{unknown, known}
use Rattle.three.specs.Cube.{◌∋◌}
use Rattle.three.specs.Record.{unpack}
use Rattle.circuit.specs.Table.{verdicts}
use Rattle.cubes.specs.declared.ChainAnswer.{ChainAnswer}
use Rattle.cubes.specs.declared.JudgeAnswer.{JudgeAnswer}
use Rattle.cubes.specs.Buffer.{cube_in}
use Rattle.cubes.specs.Chain.{ChainGiven, room_in, refused_by, circuit_in as board_in}
use Rattle.cubes.specs.Judge.{JudgeGiven, circuit_in}
use Rattle.cubes.specs.Execution.{Execution, state_after, lamps_after, bads_after, Lawful}
use Rattle.cubes.specs.Exact.{Opens}

-- the most cubes that a run takes with w at least 1: one where there is no latch, else w and one for each latch
unfoldable pub most_cubes : ℕ → ℕ → ℕ
most_cubes w latches = elim latches [ zero ↦ 1 | suc n ↦ w + suc n ]

-- The chain's count
pub record Closing (g : ChainGiven) (r : ChainAnswer) : Type 0 where
  -- with w at least 1 and room for w × L + 1 cubes a chain that is not refused closes or ends within them
  pub closes : refused_by g ≡ 0 → 1 ≤ g.w → g.w * g.counts.latches + 1 ≤ room_in g.counts g.cubes
      → (r.number ≡ 0) × (r.cubes ≤ g.w * g.counts.latches + 1)
  -- less room is enough: with w at least 1 and room for w + L cubes (with no latch for one) a chain that is not refused closes or ends within them
  pub closes_sharply : refused_by g ≡ 0 → 1 ≤ g.w → most_cubes g.w g.counts.latches ≤ room_in g.counts g.cubes
      → (r.number ≡ 0) × (r.cubes ≤ most_cubes g.w g.counts.latches)
  -- it goes back to one of its cubes, or has ended, where j = n: then no execution is legal at tick n
  pub back_within : r.number ≡ 0 → r.back ≤ r.cubes
  pub ended : r.number ≡ 0 → r.back ≡ r.cubes → (e : Execution (board_in g)) → Lawful e r.cubes → ⊥
  -- without constraints none ends
  pub closed : r.number ≡ 0 → g.counts.constraints ≡ 0 → r.back < r.cubes

module _ (g : JudgeGiven) (verdict settled : List ℕ) where
  -- One execution, at the ticks at which it is legal
  pub record CoveredLegal (e : Execution (circuit_in g)) : Type 0 where
    -- the state after t ticks lies in cube t, or in the loop's cube for it
    pub early : (t : ℕ) → Lawful e t → t < g.n → cube_in g.counts.latches g.cubes t ∋ state_after e t
    pub late : (t : ℕ) → Lawful e t → g.n ≤ t → cube_in g.counts.latches g.cubes (g.j + (t - g.j) % (g.n - g.j)) ∋ state_after e t
    -- it is not legal at tick n of an ended chain
    pub ended : g.j ≡ g.n → Lawful e g.n → ⊥
    -- "never" (false) is dark at each of these ticks, "always" (true) lit; and so of bad states
    pub judged : (i : ℕ) (v : Bool) → get_or (unpack g.counts.lamps verdict) i unknown ≡ known v → (t : ℕ) → Lawful e t → get_or (lamps_after e t) i false ≡ v
    pub bad_judged : (i : ℕ) (v : Bool) → get_or (unpack (verdicts g.counts) verdict) (g.counts.lamps + i) unknown ≡ known v → (t : ℕ) → Lawful e t → get_or (bads_after e t) i false ≡ v
    -- a settled latch keeps its value from tick j on
    pub keeps : (i : ℕ) (v : Bool) → get_or (unpack g.counts.latches settled) i unknown ≡ known v → (t : ℕ) → Lawful e t → g.j ≤ t → get_or (state_after e t) i false ≡ v

  -- One execution, at every tick
  pub record Covered (e : Execution (circuit_in g)) : Type 0 where
    pub early : (t : ℕ) → t < g.n → cube_in g.counts.latches g.cubes t ∋ state_after e t
    pub late : (t : ℕ) → g.n ≤ t → cube_in g.counts.latches g.cubes (g.j + (t - g.j) % (g.n - g.j)) ∋ state_after e t
    pub judged : (i : ℕ) (v : Bool) → get_or (unpack g.counts.lamps verdict) i unknown ≡ known v → (t : ℕ) → get_or (lamps_after e t) i false ≡ v
    pub bad_judged : (i : ℕ) (v : Bool) → get_or (unpack (verdicts g.counts) verdict) (g.counts.lamps + i) unknown ≡ known v → (t : ℕ) → get_or (bads_after e t) i false ≡ v
    pub keeps : (i : ℕ) (v : Bool) → get_or (unpack g.counts.latches settled) i unknown ≡ known v → (t : ℕ) → g.j ≤ t → get_or (state_after e t) i false ≡ v

  -- whatever cubes the judge accepts cover every legal execution, under any switch sequence
  pub record Promises (r : JudgeAnswer) : Type 0 where
    pub covers_legal : r.number ≡ 0 → (e : Execution (circuit_in g)) → CoveredLegal e
    -- without constraints every execution, at every tick
    pub covers : r.number ≡ 0 → g.counts.constraints ≡ 0 → (e : Execution (circuit_in g)) → Covered e
    -- and of cubes without X it says more
    pub opens : Opens g r verdict

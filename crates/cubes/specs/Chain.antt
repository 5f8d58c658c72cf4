-- The public chain (specification, 5.5 and 5.8): its refusals in order, what it answers, and what it leaves. Assumes nothing.
use Rattle.std.specs.Prelude.{◌≡◌, List, [], ◌∷◌, ◌++◌, ℕ, ◌/◌, leb, length}
use Rattle.three.specs.Lists.{over}
use Rattle.circuit.specs.declared.Counts.{Counts}
use Rattle.circuit.specs.Circuit.{Circuit}
use Rattle.circuit.specs.Refusal.{Test, ◌or◌, refusal, left_by}
use Rattle.circuit.specs.Table.{circuit_of, board_tests}
use Rattle.cubes.specs.declared.ChainAnswer.{ChainAnswer}
use Rattle.cubes.specs.Buffer.{cube_bytes, pack_cubes, marked}
use Rattle.cubes.specs.Run.{cube_at, Ending, stops, full, run}

-- ---- cubes in the buffer

-- "Room is cube buffer bytes / record length, rounded down."
unfoldable pub room_in : Counts → List ℕ → ℕ
room_in c buffer = length buffer / cube_bytes c.latches

-- how many cubes are stored: n, or all that there is room for
unfoldable pub stored_cubes : ℕ → Ending → ℕ
stored_cubes room e = elim e [ stops n j ↦ n | full ↦ room ]

unfoldable pub back_to : Ending → ℕ
back_to e = elim e [ stops n j ↦ j | full ↦ 0 ]

-- 15 where the run has not stopped
unfoldable pub outcome_number : Ending → ℕ
outcome_number e = elim e [ stops n j ↦ 0 | full ↦ 15 ]

-- ---- the public call

-- 3, 16, 10 for the table, 11, 12, 13; the buffer by its length
unfoldable pub chain_tests : Counts → List ℕ → ℕ → ℕ → List Test
chain_tests c table w cubes = board_tests c table ++ (leb w 1000 or 12 ∷ leb (cube_bytes c.latches) cubes or 13 ∷ leb cubes 65536 or 13 ∷ [])

-- What the call is given: counts, table, w, and the buffer as it is lent
pub record ChainGiven : Type 0 where
  pub counts : Counts
  pub table : List ℕ
  pub w : ℕ
  pub cubes : List ℕ

module _ (g : ChainGiven) where
  -- the first of the refusals before 15
  unfoldable pub refused_by : ℕ
  refused_by = refusal (chain_tests g.counts g.table g.w (length g.cubes))

  unfoldable pub circuit_in : Circuit
  circuit_in = circuit_of g.counts g.table

  unfoldable pub outcome_in : Ending
  outcome_in = run circuit_in g.w (room_in g.counts g.cubes)

  -- n and j; n = room where there is no room for the next cube
  unfoldable pub cubes_in : ℕ
  cubes_in = stored_cubes (room_in g.counts g.cubes) outcome_in

  unfoldable pub back_in : ℕ
  back_in = back_to outcome_in

-- The contract of the chain: what it answers, and every byte of the buffer at exit.
-- A refusal before 15 answers zeros and changes nothing; 15 answers n = room and stores that many cubes.
pub record Chained (g : ChainGiven) (r : ChainAnswer) (cubes : List ℕ) : Type 0 where
  pub answers : r.number ≡ left_by (refused_by g) (outcome_number (outcome_in g)) (refused_by g)
  pub counts : r.cubes ≡ left_by (refused_by g) (cubes_in g) 0
  pub goes_back : r.back ≡ left_by (refused_by g) (back_in g) 0
  pub fills_cubes : cubes ≡ left_by (refused_by g) (over (pack_cubes (marked g.w) (cube_at (circuit_in g) g.w) (cubes_in g)) g.cubes) g.cubes

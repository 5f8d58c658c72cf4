-- The public judge (specification, 5.12): its refusals in order, what it answers, and what it leaves. Assumes nothing.
use Rattle.std.specs.Prelude.{◌≡◌, List, [], ◌∷◌, ◌++◌, ℕ, leb, length}
use Rattle.three.specs.Lists.{over}
use Rattle.three.specs.Cube.{Cube, known_fields}
use Rattle.three.specs.Record.{bytes_for, pack}
use Rattle.circuit.specs.declared.Counts.{Counts}
use Rattle.circuit.specs.Circuit.{Circuit}
use Rattle.circuit.specs.Refusal.{Test, ◌or◌, refusal, left_by}
use Rattle.circuit.specs.Table.{verdicts, circuit_of, board_tests}
use Rattle.cubes.specs.declared.JudgeAnswer.{JudgeAnswer}
use Rattle.cubes.specs.Buffer.{cube_in}
use Rattle.cubes.specs.Run.{verdict, settled}
use Rattle.cubes.specs.Given.{cube_tests, is_chain}

-- What the call is given: counts, table, the buffer of cubes, how many they are and where they go back to, and the two buffers of the results as they are lent
pub record JudgeGiven : Type 0 where
  pub counts : Counts
  pub table : List ℕ
  pub cubes : List ℕ
  pub n : ℕ
  pub j : ℕ
  pub verdict : List ℕ
  pub settled : List ℕ

module _ (g : JudgeGiven) where
  unfoldable pub circuit_in : Circuit
  circuit_in = circuit_of g.counts g.table

  -- the given cubes, by number
  unfoldable pub cubes_in : ℕ → Cube
  cubes_in = cube_in g.counts.latches g.cubes

  -- 10 for the results
  unfoldable pub result_tests : List Test
  result_tests = leb (bytes_for (verdicts g.counts)) (length g.verdict) or 10 ∷ leb (bytes_for g.counts.latches) (length g.settled) or 10 ∷ []

  -- 3, 16, 10 for the table, 11, 10 for the cubes, 14, 19, 10 for the results
  unfoldable pub judge_tests : List Test
  judge_tests = board_tests g.counts g.table ++ (cube_tests g.counts g.cubes g.n ++ (is_chain circuit_in cubes_in g.n g.j or 19 ∷ result_tests))

  -- the verdict and the settled record of the given cubes
  unfoldable pub verdict_fields : Cube
  verdict_fields = verdict circuit_in cubes_in g.n

  unfoldable pub settled_fields : Cube
  settled_fields = settled circuit_in cubes_in g.n g.j

-- The contract of the judge: the number, s, and every byte of the two buffers at exit. A refusal answers 0 beside its number and changes nothing.
pub record Judged (g : JudgeGiven) (r : JudgeAnswer) (verdict settled : List ℕ) : Type 0 where
  pub answers : r.number ≡ refusal (judge_tests g)
  pub settles : r.settled ≡ left_by r.number (known_fields (settled_fields g)) 0
  pub fills_verdict : verdict ≡ left_by r.number (over (pack (verdict_fields g)) g.verdict) g.verdict
  pub fills_settled : settled ≡ left_by r.number (over (pack (settled_fields g)) g.settled) g.settled

-- The public cover (specification, 5.11): its refusals in order, what it answers, and what it leaves. Assumes nothing.
use Rattle.std.specs.Prelude.{◌≡◌, cond, List, [], ◌∷◌, ◌++◌, ℕ, leb, eqb, length}
use Rattle.three.specs.Lists.{over}
use Rattle.three.specs.Cube.{Cube}
use Rattle.three.specs.Record.{bytes_for, pack}
use Rattle.circuit.specs.declared.Counts.{Counts}
use Rattle.circuit.specs.Circuit.{Circuit}
use Rattle.circuit.specs.Refusal.{Test, ◌or◌, refusal, left_by}
use Rattle.circuit.specs.Table.{verdicts, circuit_of, board_tests}
use Rattle.cubes.specs.Run.{verdict as verdict_of}
use Rattle.cubes.specs.Buffer.{cube_in}
use Rattle.cubes.specs.Given.{cube_tests, cover_tests, first_uncovered}
use Rattle.sent.specs.declared.CoverAnswer.{CoverAnswer}

-- What the call is given: counts, table, the buffer of cubes and how many they are, and the verdict's buffer as it is lent
pub record SentGiven : Type 0 where
  pub counts : Counts
  pub table : List ℕ
  pub cubes : List ℕ
  pub n : ℕ
  pub verdict : List ℕ

module _ (g : SentGiven) where
  unfoldable pub circuit_in : Circuit
  circuit_in = circuit_of g.counts g.table

  -- the given cubes, by number
  unfoldable pub cubes_in : ℕ → Cube
  cubes_in = cube_in g.counts.latches g.cubes

  -- 10 for the verdict
  unfoldable pub verdict_tests : List Test
  verdict_tests = leb (bytes_for (verdicts g.counts)) (length g.verdict) or 10 ∷ []

  -- 3, 16, 10 for the table, 11, 10 for the cubes, 14, 17, 18, 10 for the verdict
  unfoldable pub sent_tests : List Test
  sent_tests = board_tests g.counts g.table ++ (cube_tests g.counts g.cubes g.n ++ (cover_tests circuit_in cubes_in g.n ++ verdict_tests))

  -- the verdict by the run's rule, over all n cubes
  unfoldable pub verdict_fields : Cube
  verdict_fields = verdict_of circuit_in cubes_in g.n

-- The contract: the number, the cube that 18 names and 0 with any other number, and every byte of the verdict's buffer at exit, which a refusal leaves as it was
pub record Sent (g : SentGiven) (r : CoverAnswer) (verdict : List ℕ) : Type 0 where
  pub answers : r.number ≡ refusal (sent_tests g)
  pub names : r.cube ≡ cond (eqb r.number 18) (first_uncovered (circuit_in g) (cubes_in g) g.n) 0
  pub fills_verdict : verdict ≡ left_by r.number (over (pack (verdict_fields g)) g.verdict) g.verdict

-- The two calls for beginners' boards (specification, 4.19 and 5.15): their refusals in order, what they answer, and what they leave. Assumes nothing.
use Rattle.std.specs.Prelude.{◌≡◌, List, [], ◌∷◌, ◌++◌, ℕ, leb, length}
use Rattle.three.specs.Lists.{over}
use Rattle.circuit.specs.declared.Counts.{Counts}
use Rattle.circuit.specs.Refusal.{Test, ◌or◌, refusal, left_by}
use Rattle.circuit.specs.Table.{board_tests}
use Rattle.text.specs.Outcome.{Outcome, further}
use Rattle.text.specs.Text.{Content}
use Rattle.text.specs.Calls.{read_into, ReadBy}
use Rattle.cubes.specs.declared.ChainAnswer.{ChainAnswer}
use Rattle.cubes.specs.Run.{cube_at}
use Rattle.cubes.specs.Buffer.{pack_cubes, marked}
use Rattle.cubes.specs.Chain.{ChainGiven, circuit_in, cubes_in, back_in}
use Rattle.beginners.specs.Rules.{beginners_tests}

-- ---- the reader

-- as the reader, 1 to 10, then 25
unfoldable pub read_beginners : List ℕ → List ℕ → Outcome Content
read_beginners text table = further (λ c. beginners_tests c.counts c.words) (read_into text table)

-- The contract of the reader
abbrev pub ReadingBeginners : (text table : List ℕ) (number : ℕ) (counts : Counts) (table' : List ℕ) → Type 0
ReadingBeginners text table number counts table' = ReadBy (read_beginners text table) table number counts table'

-- ---- the run

-- 13: a buffer under 19,683 or over 65,536 bytes, whatever the latches
unfoldable pub buffer_tests : ℕ → List Test
buffer_tests cubes = leb 19683 cubes or 13 ∷ leb cubes 65536 or 13 ∷ []

-- 3, 16, 10 for the table, 11, 25, 13; the buffer by its length
unfoldable pub chain_beginners_tests : Counts → List ℕ → ℕ → List Test
chain_beginners_tests c table cubes = board_tests c table ++ (beginners_tests c table ++ buffer_tests cubes)

-- What the call is given: counts, table, and the buffer as it is lent
pub record BoardGiven : Type 0 where
  pub counts : Counts
  pub table : List ℕ
  pub cubes : List ℕ

module _ (g : BoardGiven) where
  unfoldable pub refused_by : ℕ
  refused_by = refusal (chain_beginners_tests g.counts g.table (length g.cubes))

  -- the same, given to the call chain with w = 0
  abbrev pub unwidened : ChainGiven
  unwidened = record { counts = g.counts; table = g.table; w = 0; cubes = g.cubes }

-- The contract of the run: what it answers, and every byte of the buffer at exit. Where nothing is refused the number is 0, never 15.
pub record ChainedBeginners (g : BoardGiven) (r : ChainAnswer) (cubes : List ℕ) : Type 0 where
  pub answers : r.number ≡ refused_by g
  pub counts : r.cubes ≡ left_by (refused_by g) (cubes_in (unwidened g)) 0
  pub goes_back : r.back ≡ left_by (refused_by g) (back_in (unwidened g)) 0
  pub fills_cubes : cubes ≡ left_by (refused_by g) (over (pack_cubes (marked 0) (cube_at (circuit_in (unwidened g)) 0) (cubes_in (unwidened g))) g.cubes) g.cubes

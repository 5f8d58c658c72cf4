-- The run as chain and judge, one after the other; and what their contracts give as one record of values: the answer, and the bytes written at the front of each
-- buffer. Assumes nothing.
use Rattle.std.specs.Prelude.{◌≡◌, List, [], ℕ, length, replicate}
use Rattle.three.specs.Cube.{Cube, known_fields}
use Rattle.three.specs.Record.{pack}
use Rattle.circuit.specs.declared.Counts.{Counts}
use Rattle.circuit.specs.Circuit.{Circuit}
use Rattle.circuit.specs.Refusal.{refusal, left_by}
use Rattle.cubes.specs.Run.{cube_at, Ending, verdict as verdict_of, settled as settled_of}
use Rattle.cubes.specs.Buffer.{pack_cubes, marked}
use Rattle.cubes.specs.Chain.{room_in, stored_cubes, back_to, outcome_number, ChainGiven, refused_by, circuit_in, outcome_in, Chained}
use Rattle.cubes.specs.Judge.{JudgeGiven, result_tests, Judged}

-- ---- both calls

-- what they are given, and the three buffers as they are lent
pub record RunGiven : Type 0 where
  pub counts : Counts
  pub table : List ℕ
  pub w : ℕ
  pub cubes : List ℕ
  pub verdict : List ℕ
  pub settled : List ℕ

pub record RunAnswer : Type 0 where
  pub number : ℕ
  pub cubes : ℕ
  pub back : ℕ
  pub settled : ℕ

abbrev pub chains : RunGiven → ChainGiven
chains g = record { counts = g.counts; table = g.table; w = g.w; cubes = g.cubes }

-- the judge is given the cubes that the chain left, n and j
abbrev pub judges : RunGiven → List ℕ → ℕ → ℕ → JudgeGiven
judges g cubes n j = record { counts = g.counts; table = g.table; cubes = cubes; n = n; j = j; verdict = g.verdict; settled = g.settled }

-- what both contracts allow: the number is the chain's, and the judge's where the chain closes; where it does not there is no judge, and the results stay as they were lent
pub record Runs (g : RunGiven) (r : RunAnswer) (cubes verdict settled : List ℕ) : Type 0 where
  pub number : ℕ
  pub chained : Chained (chains g) (record { number = number; cubes = r.cubes; back = r.back }) cubes
  pub judged : number ≡ 0 → Judged (judges g cubes r.cubes r.back) (record { number = r.number; settled = r.settled }) verdict settled
  pub stays : (number ≡ 0 → ⊥) → (r.number ≡ number) × (r.settled ≡ 0) × (verdict ≡ g.verdict) × (settled ≡ g.settled)

-- ---- as values

-- a buffer that the call does not write has none
pub record Answer : Type 0 where
  pub number : ℕ
  pub n : ℕ
  pub j : ℕ
  pub s : ℕ
  pub cubes : List ℕ
  pub verdict : List ℕ
  pub settled : List ℕ

-- from the number of the refusal before 15, that of the results, and the run's outcome
unfoldable pub answer_from : ℕ → ℕ → Circuit → ℕ → ℕ → Ending → Answer
answer_from refused results c w room outcome =
    let chain : ℕ = left_by refused (outcome_number outcome) refused in
    let number : ℕ = left_by chain results chain in
    let n : ℕ = stored_cubes room outcome in
    let j : ℕ = back_to outcome in
    let fields : Cube = settled_of c (cube_at c w) n j in
    record {
      number = number;
      n = left_by refused n 0;
      j = left_by refused j 0;
      s = left_by number (known_fields fields) 0;
      cubes = left_by refused (pack_cubes (marked w) (cube_at c w) n) [];
      verdict = left_by number (pack (verdict_of c (cube_at c w) n)) [];
      settled = left_by number (pack fields) [];
    }

-- of what a run is given
unfoldable pub answer_in : RunGiven → Answer
answer_in g =
    answer_from (refused_by (chains g)) (refusal (result_tests (judges g [] 0 0))) (circuit_in (chains g)) g.w (room_in g.counts g.cubes) (outcome_in (chains g))

-- ---- lent buffers

-- a cube buffer of so many bytes, and two each for verdict and settled record
pub record Sized (size : ℕ) (g : RunGiven) : Type 0 where
  pub cubes : length g.cubes ≡ size
  pub verdict : length g.verdict ≡ 2
  pub settled : length g.settled ≡ 2

-- a run at w over such buffers, of zeros
abbrev pub zeroed : Counts → List ℕ → ℕ → ℕ → RunGiven
zeroed c table w size = record { counts = c; table = table; w = w; cubes = replicate size 0; verdict = replicate 2 0; settled = replicate 2 0 }

-- What functions inside hand to each other: cubes that a chain left, and those in which a lamp is known; nothing here has to be believed. Assumes nothing.
use Rattle.std.specs.Prelude.{◌≡◌, List, [], ◌++◌, ℕ, ◌+◌, ◌≤◌, ◌<◌, length, Option, Some, None, IfSome}
use Rattle.three.specs.Lists.{over}
use Rattle.three.specs.Value.{unknown}
use Rattle.three.specs.Cube.{Cube}
use Rattle.three.specs.Record.{pack}
use Rattle.circuit.specs.declared.Counts.{Counts}
use Rattle.circuit.specs.Refusal.{refusal}
use Rattle.circuit.specs.Table.{circuit_of, circuit_tests}
use Rattle.cubes.specs.Buffer.{cube_bytes, cube_in}
use Rattle.cubes.specs.BufferInCode.{Cubes}
use Rattle.cubes.specs.Judge.{judge_tests}
use Rattle.asked.specs.Call.{lamp_in}
use Rattle.reasons.specs.Reasons.{line, told_from}
use Rattle.reporting.specs.Reporting.{Piece}
use Rattle.why_report.specs.declared.Following.{Following}
use Rattle.why_report.specs.declared.Begun.{Begun}
use Rattle.why_report.specs.WhyReport.{explanation}

module _ (counts : Counts) (table cubes : List ℕ) where
  -- the explanation in the stored cube of this number
  unfoldable pub explanation_in : ℕ → ℕ → Cube
  explanation_in lamp k = explanation lamp (circuit_of counts table) (cube_in counts.latches cubes k)

  -- bytes open with its record
  pub record Explains (lamp k : ℕ) (bytes : List ℕ) : Type 0 where
    pub rest : List ℕ
    pub is : bytes ≡ over (pack (explanation_in lamp k)) rest

  -- the lines from cube k on
  abbrev pub lines_from : ℕ → ℕ → ℕ → List ℕ
  lines_from lamp n k = told_from (explanation_in lamp) n k

  -- n cubes of a table that passes its tests
  pub record Stored (n : ℕ) : Type 0 where
    pub accepts : 0 ≡ refusal (circuit_tests counts table)
    pub stand : Cubes counts.latches (cube_bytes counts.latches) n cubes

  -- the judge does not refuse them
  pub record Judgeable (n j : ℕ) : Type 0 where
    pub are : Stored n
    pub judged : (verdict settled : List ℕ) → length verdict ≡ 32 → length settled ≡ 128
        → 0 ≡ refusal (judge_tests (record { counts = counts; table = table; cubes = cubes; n = n; j = j; verdict = verdict; settled = settled }))

  -- and the lamp is known in each
  pub record Ready (lamp n : ℕ) : Type 0 where
    pub are : Stored n
    pub is_lamp : lamp < counts.lamps
    pub known : (k : ℕ) → k < n → lamp_in (circuit_of counts table) (cube_in counts.latches cubes k) lamp ≡ unknown → ⊥

  -- a group of cubes ends with cube k
  pub record GroupEnds (lamp n from k : ℕ) : Type 0 where
    pub after : from ≤ k
    pub below : k < n
    pub rest : lines_from lamp n from ≡ line from k (explanation_in lamp from) ++ lines_from lamp n (k + 1)

-- the lines that follow of stored cubes, if any
abbrev pub follows : List ℕ → List ℕ → ℕ → Option Following → List ℕ
follows table cubes lamp (Some f) = lines_from f.counts table cubes lamp f.cubes 0
follows table cubes lamp None = []

-- the first piece of a whole; what follows is left, of cubes in which the lamp is known
pub record Begins (table cubes whole : List ℕ) (lamp : ℕ) (buffer : List ℕ) (b : Begun) (buffer' : List ℕ) : Type 0 where
  pub piece : Piece whole (follows table cubes lamp b.following) buffer b.bytes buffer'
  pub ready : IfSome b.following (λ f. Ready f.counts table cubes lamp f.cubes)

-- What every report on a circuit says of a text (specification, 6): the refusals, and what stands in the place of them. In a quoted text `/` stands for byte 10. Assumes nothing.
use Rattle.std.specs.Prelude.{◌≡◌, List, ◌++◌, ℕ, ◌/◌, ◌≤◌, length}
use Rattle.three.specs.Lists.{over}
use Rattle.circuit.specs.Circuit.{Circuit}
use Rattle.circuit.specs.Refusal.{refusal, left_by}
use Rattle.circuit.specs.Table.{circuit_of, lamp_tests}
use Rattle.text.specs.Outcome.{accepted, refused}
use Rattle.text.specs.Text.{Content, read_text}
use Rattle.text.specs.Bench.{bytes}
use Rattle.cubes.specs.Buffer.{cube_bytes}
use Rattle.cubes.specs.Run.{Ending, run}
use Rattle.rows.specs.Rows.{item}

-- on a refusal the only line
unfoldable pub refusing : ℕ → List ℕ
refusing number = item (bytes "refused ") number ++ bytes "/"

-- what is said of a circuit and of the outcome of its run
abbrev pub Saying : Type 0
Saying = Circuit → Ending → List ℕ

-- the run has w = 16 and a cube buffer of 65,536 bytes; of its refusals before 15 a circuit that is read can meet 16 alone
unfoldable pub of_run : Saying → Content → List ℕ
of_run say t =
    let c : Circuit = circuit_of t.counts t.words in
    let refused : ℕ = refusal (lamp_tests t.counts) in
    left_by refused (say c (run c 16 (65536 / cube_bytes t.counts.latches))) (refusing refused)

-- the report on a text
unfoldable pub of_text : Saying → List ℕ → List ℕ
of_text say text = elim (read_text text) [ accepted t ↦ of_run say t | refused n ↦ refusing n ]

-- What may be long is printed piece by piece: each piece, and what is left after it, make what was left before.
-- A piece in a buffer at exit, how many bytes it has, and that these are they; the bytes beyond stay.
pub record Piece (before after buffer : List ℕ) (bytes : ℕ) (buffer' : List ℕ) : Type 0 where
  pub piece : List ℕ
  pub returns : bytes ≡ length piece
  pub fills : buffer' ≡ over piece buffer
  pub fits : bytes ≤ length buffer'
  pub left : before ≡ piece ++ after

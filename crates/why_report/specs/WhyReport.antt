-- Why a lamp stays dark or lit (specification, 6): what is printed for a lamp's number and the bytes on standard input. Assumes nothing.
use Rattle.std.specs.Prelude.{cond, List, [], ◌++◌, ℕ, ltb, length, get_or}
use Rattle.three.specs.Value.{Three, unknown}
use Rattle.three.specs.Cube.{Cube}
use Rattle.circuit.specs.Circuit.{Circuit}
use Rattle.cubes.specs.Run.{cube_at, Ending, stops, full, verdict}
use Rattle.asked.specs.Follow.{forcing}
use Rattle.asked.specs.Call.{lamp_literal}
use Rattle.rows.specs.declared.Row.{Row}
use Rattle.rows.specs.Rows.{row}
use Rattle.reasons.specs.Reasons.{is_known, told_from}
use Rattle.reporting.specs.Reporting.{refusing, of_text}

module _ (lamp : ℕ) where
  -- the explanation in a cube: what `why` answers for its state
  unfoldable pub explanation : Circuit → Cube → Cube
  explanation c cube = forcing c cube (lamp_literal c lamp)

  -- the lamp's line, as in the report; and where it is never or always, why it is so in each of n cubes
  unfoldable pub explained : Circuit → (ℕ → Cube) → ℕ → List ℕ
  explained c cubes n =
      let v : Three = get_or (verdict c cubes n) lamp unknown in
      row Row.Lamp lamp v ++ cond (is_known v) (told_from (λ k. explanation c (cubes k)) n 0) []

  -- a circuit's run with w = 16; 23 where it has no such lamp, after the refusals of the run
  unfoldable pub run_explained : Circuit → Ending → List ℕ
  run_explained c e = elim e [ stops n j ↦ cond (ltb lamp (length c.lamps)) (explained c (cube_at c 16) n) (refusing 23) | full ↦ refusing 15 ]

  -- what is printed
  unfoldable pub why_report_of : List ℕ → List ℕ
  why_report_of text = of_text run_explained text

-- It is printed piece by piece (`Piece`, reporting).

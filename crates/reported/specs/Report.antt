-- The report (specification, 6): what is printed for the bytes on standard input. In a quoted text `/` stands for byte 10. Assumes nothing.
use Rattle.std.specs.Prelude.{◌≡◌, cond, List, ◌++◌, ℕ, ◌≤◌, eqb, length, take, drop}
use Rattle.three.specs.Lists.{over}
use Rattle.three.specs.Cube.{Cube, known_fields}
use Rattle.circuit.specs.Circuit.{Circuit}
use Rattle.text.specs.Bench.{bytes}
use Rattle.cubes.specs.Run.{cube_at, Ending, stops, full, verdict, settled}
use Rattle.rows.specs.declared.Row.{Row}
use Rattle.rows.specs.Rows.{item, rows}
use Rattle.reporting.specs.Reporting.{refusing, of_text}

-- the line on closure
unfoldable pub closing : ℕ → ℕ → ℕ → List ℕ
closing n j s = item (bytes "cubes ") n ++ (item (bytes " back ") j ++ (item (bytes " settled ") s ++ bytes "/"))

-- the line on an end
unfoldable pub ending : ℕ → List ℕ
ending n = item (bytes "cubes ") n ++ bytes " ended/"

-- the first line: a run that stops with j = n has ended, any other has closed
unfoldable pub opening : ℕ → ℕ → ℕ → List ℕ
opening n j s = cond (eqb j n) (ending n) (closing n j s)

-- the first line; then each lamp, the first so many of the verdict; then each bad state; then each latch
unfoldable pub stop_report : ℕ → ℕ → ℕ → Cube → Cube → List ℕ
stop_report n j lamps verdict latches =
    opening n j (known_fields latches) ++ (rows Row.Lamp 0 (take lamps verdict) ++ (rows Row.Bad 0 (drop lamps verdict) ++ rows Row.Latch 0 latches))

-- the outcome of a circuit's run with w = 16
unfoldable pub run_report : Circuit → Ending → List ℕ
run_report c e =
    elim e [ stops n j ↦ stop_report n j (length c.lamps) (verdict c (cube_at c 16) n) (settled c (cube_at c 16) n j) | full ↦ refusing 15 ]

-- the report on a text
unfoldable pub report_of : List ℕ → List ℕ
report_of text = of_text run_report text

-- The contract of the report: how many bytes it has, and the buffer at exit; the bytes beyond stay.
pub record Reported (text buffer : List ℕ) (bytes : ℕ) (buffer' : List ℕ) : Type 0 where
  pub returns : bytes ≡ length (report_of text)
  pub fills : buffer' ≡ over (report_of text) buffer
  pub fits : bytes ≤ length buffer'

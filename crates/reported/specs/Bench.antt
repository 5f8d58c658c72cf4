-- The reports that the specification (6) shows, for S, for a board without lamps, with bad states, and for runs that end: computed from the text to the bytes. Assumes nothing.
use Rattle.std.specs.Prelude.{◌≡◌, refl, ℕ}
use mathlib.Core.List.{List, flat_map, zip_with}
use Prim.Native.String.{String}
use Rattle.three.specs.Lists.{tabulate, adjust}
use Rattle.three.specs.Value.{code, both, inverse, ternary}
use Rattle.three.specs.Cube.{alike, allows, subsumes, blank, agree, merged, known_fields}
use Rattle.circuit.specs.Circuit.{signed, value, pass, settle, readings}
use Rattle.circuit.specs.Refusal.{refusal, left_by}
use Rattle.circuit.specs.Table.{ceiling_tests, several, kinds, row_tests, circuit_of, lamp_tests, literal_tests, operand_tests}
use Rattle.text.specs.Decimal.{decimal, digits, is_digit, may_grow, read_on, read_number}
use Rattle.text.specs.Line.{strip, prepend, split_line}
use Rattle.text.specs.Outcome.{tested, further, onward}
use Rattle.text.specs.Text.{fits, owns, reset_word, words, line_tests, ends, read_lines, first_line, counts_of, count_tests, header_tests, read_opened, ending_of, read_text}
use Rattle.text.specs.Bench.{bytes, outcome_of}
use Rattle.cubes.specs.Buffer.{cube_bytes}
use Rattle.cubes.specs.Run.{hold, differing, due, switches_unknown, next_cube, watched, watched_in, some_low, blocked, start_field, resets, start, reached, widened, store, stage, cube_at, search, stepped, back, run, merge, merge_from, verdict, settled}
use Rattle.rows.specs.Rows.{item, said, row, rows}
use Rattle.reported.specs.Report.{closing, ending, opening, stop_report, run_report, report_of}
use Rattle.reporting.specs.Reporting.{refusing, of_run, of_text}

-- the report, all of it open to computation
unfoldable pub reported : String → List ℕ
unfolding bytes refusal ceiling_tests several kinds row_tests literal_tests operand_tests decimal digits is_digit may_grow read_on read_number strip prepend split_line tested further onward fits owns words line_tests ends read_lines first_line counts_of count_tests header_tests ending_of read_text tabulate adjust code both inverse ternary alike allows subsumes blank agree merged known_fields signed value pass settle readings circuit_of hold differing due switches_unknown next_cube watched watched_in some_low blocked start_field start reached widened store stage cube_at search back run merge verdict settled item said row rows closing ending opening refusing stop_report run_report of_run of_text report_of flat_map zip_with cube_bytes stepped merge_from read_opened reset_word resets lamp_tests left_by
reported t = report_of (bytes t)

pub shown : reported "aag 3 0 2 1 1/2 4/4 2 1/6/6 4 2/" ≡ bytes "cubes 2 back 0 settled 0/lamp 0 never/latch 0 -/latch 1 -/"
unfolding reported
shown = refl

-- a latch that toggles from 0 on: with bad states behind its lamp and in the place of one, and with a constraint on it that is 0 in the state after the first, in the start
pub shown_bad : (reported "aag 1 0 1 1 0 2/2 3/2/0/1/" ≡ bytes "cubes 2 back 0 settled 0/lamp 0 open/bad 0 never/bad 1 always/latch 0 -/")
    × (reported "aag 1 0 1 0 0 1/2 3/3/" ≡ bytes "cubes 2 back 0 settled 0/bad 0 open/latch 0 -/")
unfolding reported
shown_bad = (refl, refl)

pub shown_ended : (reported "aag 1 0 1 1 0 1 1/2 3/2/1/3/" ≡ bytes "cubes 1 ended/lamp 0 never/bad 0 always/latch 0 -/")
    × (reported "aag 1 0 1 1 0 1 1/2 3/3/1/2/" ≡ bytes "cubes 0 ended/lamp 0 never/bad 0 never/latch 0 -/")
unfolding reported
shown_ended = (refl, refl)

pub shown_lampless : (report_of (bytes "aag 0 0 0 0 0/") ≡ bytes "refused 16/") × (report_of (bytes "aag 1 0 1 0 0/2 3/") ≡ bytes "refused 16/")
unfolding bytes outcome_of decimal digits item refusing of_run of_text report_of lamp_tests left_by
shown_lampless = (refl, refl)

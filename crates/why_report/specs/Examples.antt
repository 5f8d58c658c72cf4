-- The document's S and K, a lamp that E lacks, and an open one; runs that end, after a cube and at once, and a bad state's number: computed from the text to the bytes. Assumes nothing.
use Rattle.std.specs.Prelude.{◌≡◌, refl}
use mathlib.Core.List.{flat_map, zip_with}
use Rattle.three.specs.Lists.{tabulate, adjust}
use Rattle.three.specs.Value.{code, both, inverse, ternary}
use Rattle.three.specs.Cube.{alike, allows, subsumes, blank, agree, merged}
use Rattle.circuit.specs.Circuit.{signed, value, pass, settle, readings}
use Rattle.circuit.specs.Refusal.{refusal, left_by}
use Rattle.circuit.specs.Table.{ceiling_tests, several, kinds, row_tests, circuit_of, lamp_tests, literal_tests, operand_tests}
use Rattle.text.specs.Decimal.{decimal, digits, is_digit, may_grow, read_on, read_number}
use Rattle.text.specs.Line.{strip, prepend, split_line}
use Rattle.text.specs.Outcome.{tested, further, onward}
use Rattle.text.specs.Text.{fits, owns, reset_word, words, line_tests, ends, read_lines, first_line, counts_of, count_tests, header_tests, read_opened, ending_of, read_text}
use Rattle.text.specs.Bench.{bytes}
use Rattle.cubes.specs.Buffer.{cube_bytes}
use Rattle.cubes.specs.Run.{hold, differing, due, switches_unknown, next_cube, watched, watched_in, some_low, blocked, start_field, resets, start, reached, widened, store, stage, cube_at, search, stepped, back, run, merge, merge_from, verdict}
use Rattle.cubes.specs.Given.{same}
use Rattle.asked.specs.Follow.{some, causes, followed, reaches, gate_at, values_in, forces, forcing}
use Rattle.asked.specs.Call.{lamp_literal}
use Rattle.rows.specs.Rows.{item, said, row}
use Rattle.reasons.specs.Reasons.{is_known, link, forced, latches, named, line, told, told_from}
use Rattle.reporting.specs.Reporting.{refusing, of_run, of_text}
use Rattle.why_report.specs.WhyReport.{explanation, explained, run_explained, why_report_of}

pub shown : (why_report_of 0 (bytes "aag 3 0 2 1 1/2 4/4 2 1/6/6 4 2/") ≡ bytes "lamp 0 never/cube 0: latch 0 = 0/cube 1: latch 1 = 0/")
    × (why_report_of 1 (bytes "aag 3 0 2 1 1/2 4/4 2 1/6/6 4 2/") ≡ bytes "refused 23/")
    × (why_report_of 0 (bytes "aag 1 0 1 1 0/2 3/2/") ≡ bytes "lamp 0 open/")
    × (why_report_of 0 (bytes "aag 2 1 0 1 1/2/5/4 2 0/") ≡ bytes "lamp 0 always/cube 0: no latch: the gates alone/")
    × (why_report_of 0 (bytes "aag 1 0 1 1 0 1 1/2 3/2/1/3/") ≡ bytes "lamp 0 never/cube 0: latch 0 = 0/")
    × (why_report_of 0 (bytes "aag 1 0 1 1 0 1 1/2 3/3/1/2/") ≡ bytes "lamp 0 never/")
    × (why_report_of 1 (bytes "aag 1 0 1 1 0 1 1/2 3/2/1/3/") ≡ bytes "refused 23/")
unfolding bytes refusal ceiling_tests several kinds row_tests literal_tests operand_tests decimal digits is_digit may_grow read_on read_number strip prepend split_line tested further onward fits owns words line_tests ends read_lines first_line counts_of count_tests header_tests ending_of read_text tabulate adjust code both inverse ternary alike allows subsumes blank agree merged signed value pass settle readings circuit_of hold differing due switches_unknown next_cube watched watched_in some_low blocked start_field start reached widened store stage cube_at search back run merge verdict item said row flat_map zip_with cube_bytes stepped merge_from read_opened reset_word resets lamp_tests left_by same some causes followed reaches gate_at values_in forces forcing lamp_literal is_known link forced latches named line told told_from refusing of_run of_text explanation explained run_explained why_report_of
shown = (refl, refl, refl, refl, refl, refl, refl)

-- The test of a list of cases, all of it open to computation. Assumes nothing.
use Rattle.std.specs.Prelude.{Bool}
use mathlib.Core.List.{List, flatten, zip_with}
use Rattle.three.specs.Lists.{tabulate, adjust, over}
use Rattle.three.specs.Value.{code, known, both, inverse, ternary}
use Rattle.three.specs.Cube.{alike, allows, subsumes, blank, agree, merged, known_fields}
use Rattle.three.specs.Record.{byte_of, byte_at, pack}
use Rattle.circuit.specs.Circuit.{signed, value, pass, settle, readings}
use Rattle.circuit.specs.Refusal.{all_hold, left_by}
use Rattle.circuit.specs.Table.{width, table_tests, circuit_of, word_tests, circuit_tests, lamp_tests, board_tests}
use Rattle.text.specs.Bench.{bytes, outcome_of}
use Rattle.cubes.specs.Run.{hold, differing, due, switches_unknown, next_cube, watched, watched_in, some_low, blocked, start_field, resets, start, reached, widened, store, stage, cube_at, search, stepped, back, run, merge, merge_from, verdict, settled}
use Rattle.cubes.specs.Buffer.{cube_bytes, pack_cube, pack_cubes, marked}
use Rattle.cubes.specs.Chain.{room_in, stored_cubes, back_to, outcome_number, chain_tests, refused_by, circuit_in, outcome_in}
use Rattle.cubes.specs.Judge.{result_tests}
use Rattle.witness.specs.Answer.{answer_from, answer_in}
use Rattle.witness.specs.Case.{Case, same, holds, hold_all, refused_with, ran_as, passes, all_pass}

unfoldable pub computed : List Case → Bool
unfolding outcome_of bytes tabulate adjust over code both inverse ternary alike allows subsumes blank agree merged known_fields byte_of byte_at pack signed value pass settle readings all_hold left_by width table_tests circuit_of word_tests circuit_tests lamp_tests board_tests hold differing due switches_unknown next_cube watched watched_in some_low blocked start_field start reached widened store stage cube_at search back run merge verdict settled flatten zip_with room_in stored_cubes back_to outcome_number chain_tests result_tests refused_by circuit_in outcome_in answer_from answer_in same holds hold_all refused_with ran_as passes all_pass pack_cubes pack_cube cube_bytes marked known stepped merge_from resets
computed cases = all_pass cases

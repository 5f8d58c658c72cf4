-- Covers of circuit S of the specification (9), and of one with a constraint, computed: each number, the cube that 18 names, and the byte of the verdict's buffer, which held 255. Assumes nothing.
use Rattle.std.specs.Prelude.{◌≡◌, refl, cond, List, [], ◌∷◌, ℕ, eqb}
use Rattle.three.specs.Lists.{tabulate, every, adjust, over, first}
use Rattle.three.specs.Value.{code, decode, both, inverse, ternary}
use Rattle.three.specs.Cube.{alike, allows, subsumes, blank, agree, merged}
use Rattle.three.specs.Record.{byte_of, byte_at, pack, pairs, pair_at, unpack, bad, leftover, sound}
use Rattle.circuit.specs.Circuit.{signed, value, pass, settle, readings}
use Rattle.circuit.specs.Refusal.{refusal, all_hold, left_by}
use Rattle.circuit.specs.Table.{ceiling_tests, several, kinds, width, row_tests, table_tests, circuit_of, word_tests, board_tests, lamp_tests, literal_tests, operand_tests}
use Rattle.cubes.specs.Run.{switches_unknown, next_cube, watched, watched_in, some_low, blocked, start_field, resets, start, search, merge, merge_from, verdict}
use Rattle.cubes.specs.Buffer.{cube_bytes, cube_of, sound_cube, cube_in, sound_in}
use Rattle.cubes.specs.Given.{cube_tests, covered, next_covered, cover_tests, first_uncovered}
use Rattle.cubes.specs.Chain.{room_in}
use Rattle.sent.specs.Call.{SentGiven, circuit_in, cubes_in, verdict_tests, sent_tests, verdict_fields}

-- S, with these cubes
abbrev sends : List ℕ → ℕ → SentGiven
sends cubes n = record {
  counts = record { inputs = 0; latches = 2; lamps = 1; gates = 1; bads = 0; constraints = 0 };
  table = 4 ∷ 0 ∷ 2 ∷ 1 ∷ 6 ∷ 4 ∷ 2 ∷ [];
  cubes = cubes;
  n = n;
  verdict = 255 ∷ [];
}

unfoldable pub answered : SentGiven → List ℕ
unfolding tabulate every adjust over code decode both inverse ternary alike allows subsumes blank agree merged byte_of byte_at pack pairs pair_at unpack bad leftover sound signed value pass settle readings refusal all_hold left_by ceiling_tests lamp_tests several kinds width row_tests literal_tests operand_tests table_tests circuit_of word_tests board_tests switches_unknown next_cube watched watched_in some_low blocked start_field resets start search merge merge_from verdict cube_bytes cube_of sound_cube cube_in sound_in room_in first cube_tests covered next_covered cover_tests first_uncovered circuit_in cubes_in verdict_tests sent_tests verdict_fields
answered g =
    let number : ℕ = refusal (sent_tests g) in
    number ∷ cond (eqb number 18) (first_uncovered (circuit_in g) (cubes_in g) g.n) 0 ∷ left_by number (over (pack (verdict_fields g)) g.verdict) g.verdict

-- its two cubes in the other order, with a third that is never met, one of them twice and marked otherwise, and all states: accepted, and the last judges nothing
pub accepts : (answered (sends (0x64 ∷ 0x58 ∷ []) 2) ≡ 0 ∷ 0 ∷ 0x40 ∷ [])
    × (answered (sends (0x64 ∷ 0x54 ∷ 0x58 ∷ []) 3) ≡ 0 ∷ 0 ∷ 0x40 ∷ [])
    × (answered (sends (0x58 ∷ 0x98 ∷ 0xA4 ∷ 0xFF ∷ []) 3) ≡ 0 ∷ 0 ∷ 0x40 ∷ [])
    × (answered (sends (0x80 ∷ []) 1) ≡ 0 ∷ 0 ∷ 0x00 ∷ [])
unfolding answered
accepts = (refl, refl, refl, refl)

-- the start alone, whose next state is not there; the same of the third cube; the start missing, and no cube at all; a pair 11, a leftover bit, and a mark of 00, before 17; more cubes than there are bytes
pub refuses : (answered (sends (0x58 ∷ []) 1) ≡ 18 ∷ 0 ∷ 255 ∷ [])
    × (answered (sends (0x58 ∷ 0x64 ∷ 0x60 ∷ 0x48 ∷ []) 3) ≡ 18 ∷ 2 ∷ 255 ∷ [])
    × (answered (sends (0x64 ∷ []) 1) ≡ 17 ∷ 0 ∷ 255 ∷ [])
    × (answered (sends (0x40 ∷ []) 0) ≡ 17 ∷ 0 ∷ 255 ∷ [])
    × (answered (sends (0x64 ∷ 0x70 ∷ []) 2) ≡ 14 ∷ 0 ∷ 255 ∷ [])
    × (answered (sends (0x64 ∷ 0x59 ∷ []) 2) ≡ 14 ∷ 0 ∷ 255 ∷ [])
    × (answered (sends (0x64 ∷ 0x24 ∷ []) 2) ≡ 14 ∷ 0 ∷ 255 ∷ [])
    × (answered (sends (0xFF ∷ []) 2) ≡ 10 ∷ 0 ∷ 255 ∷ [])
unfolding answered
refuses = (refl, refl, refl, refl, refl, refl, refl, refl)

-- one latch that goes to 1, with this reset, a lamp on it, a bad state where it is 0, and the constraint that it is 0
abbrev rises : ℕ → List ℕ → ℕ → SentGiven
rises reset cubes n = record {
  counts = record { inputs = 0; latches = 1; lamps = 1; gates = 0; bads = 1; constraints = 1 };
  table = 1 ∷ reset ∷ 2 ∷ 3 ∷ 3 ∷ [];
  cubes = cubes;
  n = n;
  verdict = 255 ∷ [];
}

-- no cube is enough where the constraint is 0 in the start, and both are never; not where it is 1 there, or X; then one is, its next state needing no cover
pub constrained : (answered (rises 1 [] 0) ≡ 0 ∷ 0 ∷ 0x50 ∷ [])
    × (answered (rises 0 [] 0) ≡ 17 ∷ 0 ∷ 255 ∷ [])
    × (answered (rises 2 [] 0) ≡ 17 ∷ 0 ∷ 255 ∷ [])
    × (answered (rises 0 (0x50 ∷ []) 1) ≡ 0 ∷ 0 ∷ 0x60 ∷ [])
    × (answered (rises 2 (0x40 ∷ []) 1) ≡ 0 ∷ 0 ∷ 0x00 ∷ [])
    × (answered (rises 2 (0x50 ∷ []) 1) ≡ 17 ∷ 0 ∷ 255 ∷ [])
unfolding answered
constrained = (refl, refl, refl, refl, refl, refl)

-- a cube in which the constraint is 0 counts for the verdict like any other
pub counted : answered (rises 1 (0x60 ∷ []) 1) ≡ 0 ∷ 0 ∷ 0x90 ∷ []
unfolding answered
counted = refl

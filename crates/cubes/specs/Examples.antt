-- Computed on circuits S, E and C of the specification (9): the bytes of stored cubes, and chains given to the judge, each answer with the bytes of the results' buffers, which held 255. Assumes nothing.
use Rattle.std.specs.Prelude.{◌≡◌, refl, ℕ}
use mathlib.Core.List.{List, [], ◌∷◌, ◌++◌, flatten, zip_with}
use Rattle.three.specs.Lists.{tabulate, every, adjust, over}
use Rattle.three.specs.Value.{code, decode, known, both, inverse, ternary}
use Rattle.three.specs.Cube.{alike, allows, subsumes, blank, agree, merged, known_fields}
use Rattle.three.specs.Record.{byte_of, byte_at, pack, pairs, pair_at, unpack, bad, leftover, sound}
use Rattle.circuit.specs.declared.Counts.{Counts}
use Rattle.circuit.specs.Circuit.{signed, value, pass, settle, readings}
use Rattle.circuit.specs.Refusal.{refusal, all_hold, left_by}
use Rattle.circuit.specs.Table.{plain_counts, ceiling_tests, several, kinds, width, row_tests, table_tests, circuit_of, word_tests, board_tests, lamp_tests, literal_tests, operand_tests}
use Rattle.cubes.specs.Run.{switches_unknown, next_cube, watched, watched_in, some_low, blocked, start_field, resets, start, merge, merge_from, verdict, settled, hold, differing, due, reached, widened, store, stage, cube_at}
use Rattle.cubes.specs.Buffer.{cube_bytes, cube_of, sound_cube, cube_in, sound_in, pack_cube, pack_cubes, marked}
use Rattle.cubes.specs.Chain.{room_in, chain_tests}
use Rattle.cubes.specs.Given.{cube_tests, same, onward, goes_to, goes_on, starts_chain, is_chain}
use Rattle.cubes.specs.Judge.{JudgeGiven, circuit_in, cubes_in, result_tests, judge_tests, verdict_fields, settled_fields}

unfoldable pub answered : JudgeGiven → List ℕ
unfolding tabulate every adjust over code decode both inverse ternary alike allows subsumes blank agree merged known_fields byte_of byte_at pack pairs pair_at unpack bad leftover sound signed value pass settle readings refusal all_hold left_by ceiling_tests lamp_tests several kinds width row_tests literal_tests operand_tests table_tests circuit_of word_tests board_tests switches_unknown next_cube watched watched_in some_low blocked start_field resets start merge merge_from verdict settled cube_bytes cube_of sound_cube cube_in sound_in room_in cube_tests same onward goes_to goes_on starts_chain is_chain circuit_in cubes_in result_tests judge_tests verdict_fields settled_fields
answered g =
    let number : ℕ = refusal (judge_tests g) in
    number ∷ left_by number (known_fields (settled_fields g)) 0 ∷ (left_by number (over (pack (verdict_fields g)) g.verdict) g.verdict ++ left_by number (over (pack (settled_fields g)) g.settled) g.settled)

abbrev judges : Counts → List ℕ → List ℕ → ℕ → ℕ → List ℕ → List ℕ → JudgeGiven
judges c table cubes n j verdict settled = record { counts = c; table = table; cubes = cubes; n = n; j = j; verdict = verdict; settled = settled }

-- S, with these buffers for the results, and with one byte for each
abbrev S-lent : List ℕ → ℕ → ℕ → List ℕ → List ℕ → JudgeGiven
S-lent = judges (record { inputs = 0; latches = 2; lamps = 1; gates = 1; bads = 0; constraints = 0 }) (4 ∷ 0 ∷ 2 ∷ 1 ∷ 6 ∷ 4 ∷ 2 ∷ [])

abbrev S : List ℕ → ℕ → ℕ → JudgeGiven
S cubes n j = S-lent cubes n j (255 ∷ []) (255 ∷ [])

-- E with its lamp, and with one more, the constant 0: an old chain and a new lamp
abbrev E : List ℕ → ℕ → ℕ → JudgeGiven
E cubes n j = judges (record { inputs = 0; latches = 1; lamps = 1; gates = 0; bads = 0; constraints = 0 }) (1 ∷ 0 ∷ 2 ∷ []) cubes n j (255 ∷ []) (255 ∷ [])

abbrev E-more : List ℕ → ℕ → ℕ → JudgeGiven
E-more cubes n j = judges (record { inputs = 0; latches = 1; lamps = 2; gates = 0; bads = 0; constraints = 0 }) (1 ∷ 0 ∷ 2 ∷ 0 ∷ []) cubes n j (255 ∷ []) (255 ∷ [])

-- its own chains, not widened and widened; the same once more round; cubes that no chain made, wider than they have to be
pub accepts : (answered (S (0x58 ∷ 0x64 ∷ []) 2 0) ≡ 0 ∷ 0 ∷ 0x40 ∷ 0x00 ∷ [])
    × (answered (S (0x58 ∷ 0x80 ∷ []) 2 1) ≡ 0 ∷ 0 ∷ 0x00 ∷ 0x00 ∷ [])
    × (answered (S (0x58 ∷ 0x64 ∷ 0x58 ∷ 0xFF ∷ []) 3 1) ≡ 0 ∷ 0 ∷ 0x40 ∷ 0x00 ∷ [])
    × (answered (S (0x58 ∷ 0x60 ∷ 0x48 ∷ []) 3 1) ≡ 0 ∷ 0 ∷ 0x00 ∷ 0x00 ∷ [])
    × (answered (E (0x50 ∷ 0x60 ∷ []) 2 1) ≡ 0 ∷ 1 ∷ 0x00 ∷ 0x80 ∷ [])
    × (answered (E-more (0x50 ∷ 0x60 ∷ []) 2 1) ≡ 0 ∷ 1 ∷ 0x10 ∷ 0x80 ∷ [])
unfolding answered
accepts = (refl, refl, refl, refl, refl, refl)

-- no cube, j = n and beyond; cube 0 not the start, and wider than it; a next state in the middle outside the following cube; that of the last outside cube j
pub refuses : (answered (S (0x58 ∷ 0x64 ∷ []) 0 0) ≡ 19 ∷ 0 ∷ 255 ∷ 255 ∷ [])
    × (answered (S (0x58 ∷ 0x64 ∷ 0x58 ∷ []) 2 2) ≡ 19 ∷ 0 ∷ 255 ∷ 255 ∷ [])
    × (answered (S (0x58 ∷ 0x64 ∷ []) 2 3) ≡ 19 ∷ 0 ∷ 255 ∷ 255 ∷ [])
    × (answered (S (0x64 ∷ 0x58 ∷ []) 2 0) ≡ 19 ∷ 0 ∷ 255 ∷ 255 ∷ [])
    × (answered (S (0x40 ∷ 0x40 ∷ []) 2 0) ≡ 19 ∷ 0 ∷ 255 ∷ 255 ∷ [])
    × (answered (S (0x58 ∷ 0x64 ∷ 0x64 ∷ []) 3 0) ≡ 19 ∷ 0 ∷ 255 ∷ 255 ∷ [])
    × (answered (E (0x50 ∷ 0x60 ∷ []) 2 0) ≡ 19 ∷ 0 ∷ 255 ∷ 255 ∷ [])
unfolding answered
refuses = (refl, refl, refl, refl, refl, refl, refl)

-- more cubes than there are bytes; a pair 11, and a leftover bit, before 19; 19 before a result that is short; each of them short
pub in_order : (answered (S (0xFF ∷ []) 2 0) ≡ 10 ∷ 0 ∷ 255 ∷ 255 ∷ [])
    × (answered (S (0x64 ∷ 0x70 ∷ []) 2 2) ≡ 14 ∷ 0 ∷ 255 ∷ 255 ∷ [])
    × (answered (S (0x58 ∷ 0x65 ∷ []) 2 0) ≡ 14 ∷ 0 ∷ 255 ∷ 255 ∷ [])
    × (answered (S-lent (0x58 ∷ 0x64 ∷ []) 2 2 [] []) ≡ 19 ∷ 0 ∷ [])
    × (answered (S-lent (0x58 ∷ 0x64 ∷ []) 2 0 [] (255 ∷ [])) ≡ 10 ∷ 0 ∷ 255 ∷ [])
    × (answered (S-lent (0x58 ∷ 0x64 ∷ []) 2 0 (255 ∷ []) []) ≡ 10 ∷ 0 ∷ 255 ∷ [])
unfolding answered
in_order = (refl, refl, refl, refl, refl, refl)

-- marks: other ones change nothing, that of cube 0 included; 00 and 11 are refused
pub marks : (answered (S (0x98 ∷ 0xA4 ∷ []) 2 0) ≡ 0 ∷ 0 ∷ 0x40 ∷ 0x00 ∷ [])
    × (answered (E (0x90 ∷ 0xA0 ∷ []) 2 1) ≡ 0 ∷ 1 ∷ 0x00 ∷ 0x80 ∷ [])
    × (answered (S (0x58 ∷ 0x24 ∷ []) 2 0) ≡ 14 ∷ 0 ∷ 255 ∷ 255 ∷ [])
    × (answered (S (0xD8 ∷ 0x64 ∷ []) 2 0) ≡ 14 ∷ 0 ∷ 255 ∷ 255 ∷ [])
unfolding answered
marks = (refl, refl, refl, refl)

-- ---- what a run stores

unfoldable pub stores : Counts → List ℕ → ℕ → ℕ → List ℕ
unfolding tabulate adjust code known both inverse ternary alike blank byte_of byte_at pack signed value pass settle readings circuit_of hold differing due switches_unknown next_cube start_field resets start reached widened store stage cube_at pack_cube pack_cubes marked flatten zip_with
stores c table w n = pack_cubes (marked w) (cube_at (circuit_of c table) w) n

-- plain and widened cubes of C, and of four latches that each follow the inverse of the first: their records take two bytes
pub stored : (stores (plain_counts 0 2 1 3) (3 ∷ 0 ∷ 11 ∷ 0 ∷ 10 ∷ 4 ∷ 3 ∷ 5 ∷ 2 ∷ 9 ∷ 7 ∷ []) 0 4 ≡ 0x54 ∷ 0x64 ∷ 0x58 ∷ 0x68 ∷ [])
    × (stores (plain_counts 0 2 1 3) (3 ∷ 0 ∷ 11 ∷ 0 ∷ 10 ∷ 4 ∷ 3 ∷ 5 ∷ 2 ∷ 9 ∷ 7 ∷ []) 2 3 ≡ 0x54 ∷ 0x64 ∷ 0x80 ∷ [])
    × (stores (plain_counts 0 4 1 0) (3 ∷ 0 ∷ 3 ∷ 0 ∷ 3 ∷ 0 ∷ 3 ∷ 1 ∷ 2 ∷ []) 0 2 ≡ 0x55 ∷ 0x80 ∷ 0x6A ∷ 0x80 ∷ [])
unfolding stores
stored = (refl, refl, refl)

-- so 13 is given for a buffer of one byte, and not for one of two
pub room_for_one : (refusal (chain_tests (plain_counts 0 4 1 0) (3 ∷ 0 ∷ 3 ∷ 0 ∷ 3 ∷ 0 ∷ 3 ∷ 1 ∷ 2 ∷ []) 0 1) ≡ 13)
    × (refusal (chain_tests (plain_counts 0 4 1 0) (3 ∷ 0 ∷ 3 ∷ 0 ∷ 3 ∷ 0 ∷ 3 ∷ 1 ∷ 2 ∷ []) 0 2) ≡ 0)
unfolding every refusal all_hold ceiling_tests lamp_tests several kinds width row_tests literal_tests operand_tests table_tests word_tests board_tests chain_tests cube_bytes
room_for_one = (refl, refl)

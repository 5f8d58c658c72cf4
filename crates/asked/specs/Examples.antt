-- What is answered on circuits S and C of the specification (9), and on lamps that are a constant, a latch and a switch, computed:
-- each number, and a result's buffer that held the bytes 255 and 7. Assumes nothing.
use Rattle.std.specs.Prelude.{◌≡◌, refl, List, [], ◌∷◌, map, ℕ, length}
use Rattle.three.specs.Lists.{tabulate, every, over}
use Rattle.three.specs.Value.{code, decode, both, inverse, ternary}
use Rattle.three.specs.Cube.{alike, blank}
use Rattle.three.specs.Record.{byte_of, byte_at, pack, pairs, pair_at, unpack, bad, leftover, sound}
use Rattle.circuit.specs.declared.Counts.{Counts}
use Rattle.circuit.specs.Circuit.{signed, value, pass, settle, readings}
use Rattle.circuit.specs.Refusal.{refusal, all_hold, left_by}
use Rattle.circuit.specs.Table.{ceiling_tests, several, kinds, width, row_tests, table_tests, circuit_of, word_tests, circuit_tests, literal_tests, operand_tests}
use Rattle.cubes.specs.Run.{switches_unknown, lamps_in}
use Rattle.asked.specs.Follow.{some, causes, followed, reaches, gate_at, values_in, forces, forcing}
use Rattle.asked.specs.Call.{lamp_in, lamp_literal, given_tests, answer_tests, why_tests, why_fields, WhyGiven}

unfoldable pub answered : WhyGiven → List ℕ
unfolding tabulate every over code decode both inverse ternary alike blank byte_of byte_at pack pairs pair_at unpack bad leftover sound signed value pass settle readings refusal all_hold left_by ceiling_tests several kinds width row_tests literal_tests operand_tests table_tests circuit_of word_tests circuit_tests switches_unknown lamps_in some causes followed reaches gate_at values_in forces forcing lamp_in lamp_literal given_tests answer_tests why_tests why_fields
answered g =
    let number : ℕ = refusal (why_tests g.counts g.table g.state g.lamp (length g.why)) in
    number ∷ left_by number (over (pack (why_fields g.counts g.table g.state g.lamp)) g.why) g.why

abbrev asks : Counts → List ℕ → List ℕ → ℕ → WhyGiven
asks c table state lamp = record { counts = c; table = table; state = state; lamp = lamp; why = 255 ∷ 7 ∷ [] }

abbrev counts : ℕ → ℕ → ℕ → ℕ → Counts
counts i l o a = record { inputs = i; latches = l; lamps = o; gates = a; bads = 0; constraints = 0 }

-- S `aag 3 0 2 1 1/2 4/4 2 1/6/6 4 2/`, whose gate reads latch 1 first. At 1 both are kept; at 0 latch 1 where it is 0, else latch 0; X is 24, a pair 11 is 14, no byte is 10
abbrev s_asks : List ℕ → ℕ → WhyGiven
s_asks = asks (counts 0 2 1 1) (4 ∷ 0 ∷ 2 ∷ 1 ∷ 6 ∷ 4 ∷ 2 ∷ [])

pub s_rows : map (λ state. answered (s_asks state 0)) ((0xA0 ∷ []) ∷ (0x60 ∷ []) ∷ (0x90 ∷ []) ∷ (0x50 ∷ []) ∷ (0x80 ∷ []) ∷ (0xC0 ∷ []) ∷ [] ∷ [])
    ≡ (0 ∷ 0xA0 ∷ 7 ∷ []) ∷ (0 ∷ 0x40 ∷ 7 ∷ []) ∷ (0 ∷ 0x10 ∷ 7 ∷ []) ∷ (0 ∷ 0x10 ∷ 7 ∷ []) ∷ (24 ∷ 255 ∷ 7 ∷ []) ∷ (14 ∷ 255 ∷ 7 ∷ []) ∷ (10 ∷ 255 ∷ 7 ∷ []) ∷ []
unfolding answered
s_rows = refl

-- there is no lamp 1, which is judged before the lamp's value
pub s_lamp_1 : answered (s_asks (0x80 ∷ []) 1) ≡ 23 ∷ 255 ∷ 7 ∷ []
unfolding answered
s_lamp_1 = refl

-- C `aag 5 0 2 1 3/2 3/4 11/10/6 4 3/8 5 2/10 9 7/`. Inverted literals turn the question round twice
abbrev c_asks : List ℕ → ℕ → WhyGiven
c_asks = asks (counts 0 2 1 3) (3 ∷ 0 ∷ 11 ∷ 0 ∷ 10 ∷ 4 ∷ 3 ∷ 5 ∷ 2 ∷ 9 ∷ 7 ∷ [])

pub c_rows : map (λ state. answered (c_asks state 0)) ((0x50 ∷ []) ∷ (0x90 ∷ []) ∷ (0x40 ∷ []) ∷ [])
    ≡ (0 ∷ 0x50 ∷ 7 ∷ []) ∷ (0 ∷ 0x90 ∷ 7 ∷ []) ∷ (24 ∷ 255 ∷ 7 ∷ []) ∷ []
unfolding answered
c_rows = refl

-- one switch, one latch, and the lamps 1, 5 and 2: a constant gives an all-X record, a latch itself, a switch is X, and there is no lamp 3
pub leaf_rows : map (λ lamp. answered (asks (counts 1 1 3 0) (4 ∷ 0 ∷ 1 ∷ 5 ∷ 2 ∷ []) (0x40 ∷ []) lamp)) (0 ∷ 1 ∷ 2 ∷ 3 ∷ [])
    ≡ (0 ∷ 0 ∷ 7 ∷ []) ∷ (0 ∷ 0x40 ∷ 7 ∷ []) ∷ (24 ∷ 255 ∷ 7 ∷ []) ∷ (23 ∷ 255 ∷ 7 ∷ []) ∷ []
unfolding answered
leaf_rows = refl

-- A written binary text never exceeds 19,176 bytes (specification, 4.16), and one has as many: 31 for the first line, at most 6 and the own
-- literal for a latch, 5 for a line of one literal, 4 for a gate; larger own literals make a latch line no shorter. Assumes nothing.
use mathlib.Core.Path.{◌≡◌, refl}
use mathlib.Core.List.{List, [], ◌∷◌}
use Prim.Native.Nat.{ℕ, ◌+◌, ◌-◌, ◌≤◌}
use native.Mathlib.Omega.{arith}
use borrow.Author.Tests.{leb-true, ltb-true}
use lib.ListN.{length, length-append, drop, get_or}
use Rattle.circuit.specs.declared.Counts.{Counts}
use Rattle.circuit.specs.Refusal.{refusal, all_hold}
use Rattle.circuit.specs.RulesInCode.{Passed, Bounded}
use Rattle.circuit.specs.Table.{top, ceiling_tests, Kind, input, latch, literal, gate, several, kinds, width, row_tests, table_tests, word_tests, circuit_tests, literal_tests, operand_tests}
use Rattle.circuit.proofs.Refusals.{passed_append}
use Rattle.text.specs.Decimal.{digits, decimal}
use Rattle.text.specs.Line.{ended_line}
use Rattle.text.specs.Text.{write_rows, write_opened, shown, further_numbers, head_numbers}
use Rattle.text.proofs.Decimals.{length_below, length_monotone}
use Rattle.text.proofs.Tables.{Due, Owned, owned_kinds, Taken, taken}
use Rattle.text.proofs.Bound.{ceiling, next_room, rooms, Growing, rooms_kinds, head_room, words_by}
use Rattle.binary.specs.Difference.{groups_of, groups}
use Rattle.binary.specs.Gate.{differences, gate_bytes}
use Rattle.binary.specs.Binary.{row_bytes, write_binary}
use Rattle.binary.proofs.Gates.{length_gate, differences_small}

-- the most bytes that a row takes
room : Kind → ℕ
room (input own) = 0
room (latch own) = length (decimal own) + 6
room literal = 5
room (gate own) = 4

-- ---- rows that keep the rules stay within their room

row_room : (most : ℕ) (k : Kind) (ws : List ℕ) → most ≤ 8191 → Due most k → Passed (row_tests most k ws) → length (row_bytes k ws) ≤ room k
unfolding row_bytes room row_tests literal_tests operand_tests ended_line
row_room most (input own) ws m d p = omega arith
row_room most (latch own) ws m d p = next_room own (get_or ws 0 0) (get_or ws 1 0) (omega (arith, leb-true))
row_room most literal ws m d p = simp length-append (omega (arith, length_below 3 (get_or ws 0 0) (omega (arith, leb-true))))
row_room most (gate own) ws m d p =
    length_gate _ (differences_small own (get_or ws 0 0) (get_or ws 1 0) (omega arith) (omega (arith, ltb-true)) (omega (arith, ltb-true)))

rows_room : (most : ℕ) (ks : List Kind) (ws : List ℕ) → most ≤ 8191 → Owned most ks → Passed (table_tests most ks ws) → length (write_rows row_bytes ks ws) ≤ rooms room ks
unfolding write_rows table_tests rooms
rows_room most [] ws m o p = omega arith
rows_room most (k ∷ ks) ws m o p =
    let q = passed_append (row_tests most k ws) (table_tests most ks (drop (width k) ws)) p in
    simp length-append (omega (arith, row_room most k ws m o.0 q.0, rows_room most ks (drop (width k) ws) m o.1 q.1))

-- ---- the largest counts have the most room

rooms_ceiling : rooms room (kinds ceiling) ≡ 19145
unfolding rooms room kinds ceiling several decimal digits
rooms_ceiling = refl

rows_grow : Growing room
unfolding room
rows_grow = record { inputs = λ x y h. omega arith; latches = λ x y h. omega (arith, length_monotone x y h); gates = λ x y h. omega arith }

pub binary_bound : (c : Counts) (table : List ℕ) → 0 ≡ refusal (circuit_tests c table) → length (write_binary c table) ≤ 19176
unfolding write_opened
binary_bound c table e =
    let k : Taken c table = taken c table e in
    let b : Bounded c = k.bounded in
    simp length-append (omega (arith, head_room c b, rows_room (top c) (kinds c) table (omega arith) (owned_kinds c) k.rules, rooms_kinds room rows_grow c b, rooms_ceiling))

-- ---- the bound is reached

-- the longest words that a row can have: two groups for each difference
longest : Kind → List ℕ
longest (input own) = []
longest (latch own) = 8191 ∷ 2 ∷ []
longest literal = 8191 ∷ []
longest (gate own) = (own - 128) ∷ (own - 256) ∷ []

pub longest_table : List ℕ
longest_table = words_by longest (kinds ceiling)

pub bound_reached : (0 ≡ refusal (circuit_tests ceiling longest_table)) × (length (write_binary ceiling longest_table) ≡ 19176)
unfolding refusal circuit_tests ceiling_tests word_tests all_hold table_tests row_tests literal_tests operand_tests width ceiling kinds several longest words_by longest_table write_opened head_numbers further_numbers write_rows row_bytes shown ended_line decimal digits gate_bytes differences groups groups_of
bound_reached = (refl, refl)

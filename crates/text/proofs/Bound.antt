-- A written text never exceeds 59,061 bytes (specification, 4.7), and one has as many: each line has its longest numbers,
-- and more or larger own literals make a body no shorter. Assumes nothing.
use mathlib.Core.Path.{◌≡◌, refl}
use mathlib.Core.List.{List, [], ◌∷◌, ◌++◌}
use Prim.Native.Nat.{ℕ, zero, suc, ◌+◌, ◌*◌, ◌-◌, ◌≤◌}
use native.Mathlib.Omega.{arith}
use borrow.Author.Tests.{leb-true, ltb-true}
use lib.ListN.{length, length-append, drop, get_or}
use Rattle.circuit.specs.declared.Counts.{Counts}
use Rattle.circuit.specs.Refusal.{refusal, all_hold}
use Rattle.circuit.specs.RulesInCode.{Passed, Bounded}
use Rattle.circuit.specs.Table.{variables, top, ceiling_tests, Kind, input, latch, literal, gate, several, kinds, width, row_tests, table_tests, word_tests, circuit_tests, literals, literal_tests, operand_tests}
use Rattle.text.specs.Decimal.{digits, decimal}
use Rattle.text.specs.Line.{line_text, ended_line}
use Rattle.text.specs.Text.{shown, numbers, further_numbers, head_numbers, line_of, write_rows, write_opened, write_text}
use Rattle.circuit.proofs.Refusals.{passed_append}
use Rattle.text.proofs.Decimals.{length_below, length_monotone}
use Rattle.text.proofs.Tables.{Taken, taken}

-- the most bytes that a line takes
room : Kind → ℕ
room (input own) = length (decimal own) + 1
room (latch own) = 2 * length (decimal own) + 7
room literal = 5
room (gate own) = 3 * length (decimal own) + 3

-- the same for several lines, by the room of each
unfoldable pub rooms : (Kind → ℕ) → List Kind → ℕ
rooms each [] = 0
rooms each (k ∷ ks) = each k + rooms each ks

-- ---- lines that keep the rules stay within their room

pub one_digit : (n : ℕ) → 1 ≤ length (decimal n)
unfolding decimal digits
one_digit n = length_monotone 0 n (omega arith)

-- a latch's numbers behind its own literal, which the reset may repeat
pub next_room : (own next reset : ℕ) → next ≤ 8191 → length (line_text (next ∷ shown own reset)) ≤ length (decimal own) + 6
unfolding ended_line shown
next_room own next zero p = simp length-append (omega (arith, length_below 3 next (omega arith), one_digit own))
next_room own next (suc zero) p = simp length-append (omega (arith, length_below 3 next (omega arith), length_below 0 1 (omega arith), one_digit own))
next_room own next (suc (suc n)) p = simp length-append (omega (arith, length_below 3 next (omega arith)))

latch_room : (own next reset : ℕ) → next ≤ 8191 → length (line_text (own ∷ next ∷ shown own reset)) ≤ 2 * length (decimal own) + 7
latch_room own next reset p = let behind = next_room own next reset p in unfold ended_line in simp length-append (omega (arith, behind))

line_room : (most : ℕ) (k : Kind) (ws : List ℕ) → most ≤ 8191 → Passed (row_tests most k ws) → length (line_text (numbers k ws)) ≤ room k
unfolding ended_line numbers room row_tests literal_tests operand_tests
line_room most (input own) ws m p = simp length-append (omega arith)
line_room most (latch own) ws m p = latch_room own (get_or ws 0 0) (get_or ws 1 0) (omega (arith, leb-true))
line_room most literal ws m p = simp length-append (omega (arith, length_below 3 (get_or ws 0 0) (omega (arith, leb-true))))
line_room most (gate own) ws m p =
    simp length-append (omega (arith, length_monotone (get_or ws 0 0) own (omega (arith, ltb-true)), length_monotone (get_or ws 1 0) own (omega (arith, ltb-true))))

body_room : (most : ℕ) (ks : List Kind) (ws : List ℕ) → most ≤ 8191 → Passed (table_tests most ks ws) → length (write_rows line_of ks ws) ≤ rooms room ks
unfolding write_rows line_of table_tests rooms
body_room most [] ws m p = omega arith
body_room most (k ∷ ks) ws m p =
    let q = passed_append (row_tests most k ws) (table_tests most ks (drop (width k) ws)) p in
    simp length-append (omega (arith, line_room most k ws m q.0, body_room most ks (drop (width k) ws) m q.1))

-- ---- the largest counts have the most room

-- "I 256, L 512, O 64, A 3,327", and 64 bad states and constraints each
unfoldable pub ceiling : Counts
ceiling = record { inputs = 256; latches = 512; lamps = 64; gates = 3327; bads = 64; constraints = 64 }

-- larger own literals take no less room
pub record Growing (each : Kind → ℕ) : Type 0 where
  pub inputs : (a b : ℕ) → a ≤ b → each (input a) ≤ each (input b)
  pub latches : (a b : ℕ) → a ≤ b → each (latch a) ≤ each (latch b)
  pub gates : (a b : ℕ) → a ≤ b → each (gate a) ≤ each (gate b)

module _ (each : Kind → ℕ) where
  rooms_several : (kind : ℕ → Kind) → ((a b : ℕ) → a ≤ b → each (kind a) ≤ each (kind b))
      → (a b n m : ℕ) (ks js : List Kind) → a ≤ b → n ≤ m → rooms each ks ≤ rooms each js → rooms each (several kind a n ks) ≤ rooms each (several kind b m js)
  unfolding several rooms
  rooms_several kind mono a b zero zero ks js p q h = h
  rooms_several kind mono a b zero (suc m) ks js p q h = omega (arith, rooms_several kind mono a (b + 2) zero m ks js (omega arith) (omega arith) h)
  rooms_several kind mono a b (suc n) zero ks js p q h = absurd (omega arith)
  rooms_several kind mono a b (suc n) (suc m) ks js p q h = omega (arith, mono a b p, rooms_several kind mono (a + 2) (b + 2) n m ks js (omega arith) (omega arith) h)

  pub rooms_kinds : Growing each → (c : Counts) → Bounded c → rooms each (kinds c) ≤ rooms each (kinds ceiling)
  unfolding kinds ceiling
  rooms_kinds grows c b =
      rooms_several input grows.inputs _ _ c.inputs 256 _ _ (omega arith) b.inputs
      (rooms_several latch grows.latches _ _ c.latches 512 _ _ (omega arith) b.latches
      (rooms_several (λ own. literal) (λ x y h. omega arith) _ _ (literals c) 192 _ _ (omega arith) (omega arith)
      (rooms_several gate grows.gates _ _ c.gates 3327 _ _ (omega arith) b.gates (omega arith))))

lines_grow : Growing room
unfolding room
lines_grow = record { inputs = λ x y h. omega (arith, length_monotone x y h); latches = λ x y h. omega (arith, length_monotone x y h); gates = λ x y h. omega (arith, length_monotone x y h) }

rooms_ceiling : rooms room (kinds ceiling) ≡ 59030
unfolding rooms room kinds ceiling several decimal digits
rooms_ceiling = refl

-- B and C behind a number of the first line
further_room : (n b c : ℕ) → b ≤ 64 → c ≤ 64 → length (line_text (n ∷ further_numbers b c)) ≤ length (decimal n) + 7
unfolding ended_line further_numbers
further_room n zero zero p q = simp length-append (omega arith)
further_room n (suc b) zero p q = simp length-append (omega (arith, length_below 1 (suc b) (omega arith)))
further_room n zero (suc c) p q = simp length-append (omega (arith, length_below 0 0 (omega arith), length_below 1 (suc c) (omega arith)))
further_room n (suc b) (suc c) p q = simp length-append (omega (arith, length_below 1 (suc b) (omega arith), length_below 1 (suc c) (omega arith)))

-- the first line behind the four bytes
pub head_room : (c : Counts) → Bounded c → length (line_text (head_numbers c)) ≤ 27
unfolding head_numbers
head_room c b =
    let behind = further_room c.gates c.bads c.constraints b.bads b.constraints in
    unfold ended_line in simp length-append (omega (
      arith,
      behind,
      length_below 3 (variables c) (omega arith),
      length_below 2 c.inputs (omega arith),
      length_below 2 c.latches (omega arith),
      length_below 1 c.lamps (omega arith),
      length_below 3 c.gates (omega arith),
    ))

pub text_bound : (c : Counts) (table : List ℕ) → 0 ≡ refusal (circuit_tests c table) → length (write_text c table) ≤ 59061
unfolding write_opened
text_bound c table e =
    let k : Taken c table = taken c table e in
    let b : Bounded c = k.bounded in
    simp length-append (omega (arith, head_room c b, body_room (top c) (kinds c) table (omega arith) k.rules, rooms_kinds room lines_grow c b, rooms_ceiling))

-- ---- the bound is reached

-- the longest words that a line can have
longest : Kind → List ℕ
longest (input own) = []
longest (latch own) = 8191 ∷ 2 ∷ []
longest literal = 8191 ∷ []
longest (gate own) = (own - 1) ∷ (own - 1) ∷ []

-- the words of several lines, by those of each
unfoldable pub words_by : (Kind → List ℕ) → List Kind → List ℕ
words_by each [] = []
words_by each (k ∷ ks) = each k ++ words_by each ks

pub longest_table : List ℕ
longest_table = words_by longest (kinds ceiling)

pub bound_reached : (0 ≡ refusal (circuit_tests ceiling longest_table)) × (length (write_text ceiling longest_table) ≡ 59061)
unfolding refusal circuit_tests ceiling_tests word_tests all_hold table_tests row_tests literal_tests operand_tests width ceiling kinds several longest words_by longest_table write_opened head_numbers further_numbers write_rows line_of numbers shown ended_line decimal digits
bound_reached = (refl, refl)

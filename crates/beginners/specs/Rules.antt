-- The beginners' rules (request 12; specification, 4.19): 25 for a board outside them. Assumes nothing.
-- Decided here: a constant literal is none among next, lamp and operand literals; `4 4` and `4 5` both are one variable twice.
use Rattle.std.specs.Prelude.{Bool, not, ◌&&◌, List, [], ◌∷◌, ◌++◌, ℕ, ◌+◌, ◌*◌, ◌/◌, leb, eqb, get_or}
use Rattle.three.specs.Lists.{every}
use Rattle.circuit.specs.declared.Counts.{Counts}
use Rattle.circuit.specs.Refusal.{Test, ◌or◌}
use Rattle.circuit.specs.Table.{literals, literals_at, gates_at}

-- at most 4 switches, 8 latches, 8 lamps, 32 gates, B and C both 0
unfoldable pub small_tests : Counts → List Test
small_tests c =
    leb c.inputs 4 or 25 ∷ leb c.latches 8 or 25 ∷ leb c.lamps 8 or 25 ∷ leb c.gates 32 or 25
    ∷ eqb c.bads 0 or 25 ∷ eqb c.constraints 0 or 25 ∷ []

-- a literal that is not constant: neither 0 nor 1
unfoldable pub varies : ℕ → Bool
varies literal = leb 2 literal

-- a gate whose operands are not constant, and not fed twice by one variable
unfoldable pub well_fed : ℕ → ℕ → Bool
well_fed left right = varies left && (varies right && not (eqb (left / 2) (right / 2)))

-- next literals, lamps and gates, in the table's words
unfoldable pub feed_tests : Counts → List ℕ → List Test
feed_tests c words =
    every c.latches (λ i. varies (get_or words (2 * i) 0)) or 25
    ∷ every (literals c) (λ i. varies (get_or words (literals_at c + i) 0)) or 25
    ∷ every c.gates (λ i. well_fed (get_or words (gates_at c + 2 * i) 0) (get_or words (gates_at c + 2 * i + 1) 0)) or 25
    ∷ []

-- the beginners' rules
unfoldable pub beginners_tests : Counts → List ℕ → List Test
beginners_tests c words = small_tests c ++ feed_tests c words

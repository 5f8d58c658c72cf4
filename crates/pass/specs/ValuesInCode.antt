-- The working table of a pass (specification, 3.3), as the code holds it: the record of 4,096 values, one for each variable. Assumes nothing.
use Rattle.std.specs.Prelude.{◌≡◌, List, ◌∷◌, ◌++◌, ℕ, ◌+◌, ◌*◌, ◌<◌, ◌≤◌, length, get_or, take, drop, replicate}
use Rattle.three.specs.Lists.{tabulate}
use Rattle.three.specs.Value.{Three, unknown, low, code, decode, ternary}
use Rattle.three.specs.Cube.{Cube}
use Rattle.three.specs.Record.{pair_at, unpack}
use Rattle.circuit.specs.Circuit.{signed, value, pass}
use Rattle.circuit.specs.RulesInCode.{gates_from}

-- the values that a working table holds
unfoldable pub values_of : List ℕ → List Three
values_of table = unpack (4 * length table) table

-- those of a new one: the constant, and all else X
unfoldable pub fresh_values : List Three
fresh_values = low ∷ replicate 4095 unknown

-- 4,096 values, four a byte, and no pair 11
pub record Working (table : List ℕ) : Type 0 where
  pub long : 4 * length table ≡ 4096
  pub codes : (v : ℕ) → pair_at table v < 3

-- a working table that holds these values
pub record Holding (table : List ℕ) (values : List Three) : Type 0 where
  pub working : Working table
  pub same : values_of table ≡ values

-- a working table whose first entries are these values
pub record Begins (table : List ℕ) (values : List Three) : Type 0 where
  pub working : Working table
  pub same : take (length values) (values_of table) ≡ values

-- a value as an even literal reads it, and as an odd one does: a row for each, all in their two bits
unfoldable pub sign_table : List (List ℕ)
sign_table = tabulate 2 (λ sign. tabulate 3 (λ v. code (signed ternary sign (decode v))))

-- `count` gates from word `at` on, the first of them variable `first`: the words are there, and each operand is below its gate's own literal
pub record Gateable (words : List ℕ) (at first count : ℕ) : Type 0 where
  pub long : at + 2 * count ≤ length words
  pub room : first + count ≤ 4096
  pub left : (i : ℕ) → i < count → get_or words (at + 2 * i) 0 < 2 * (first + i)
  pub right : (i : ℕ) → i < count → get_or words (at + 2 * i + 1) 0 < 2 * (first + i)

-- `count` literals, one every `step` words from word `at` on: each is there, and has its variable in a working table
pub record Readable (words : List ℕ) (at step count : ℕ) : Type 0 where
  pub long : (i : ℕ) → i < count → at + step * i < length words
  pub small : (i : ℕ) → i < count → get_or words (at + step * i) 0 < 8192

-- the values of those literals
unfoldable pub literal_values : List Three → List ℕ → ℕ → ℕ → ℕ → Cube
literal_values values words at step count = tabulate count (λ i. value ternary values (get_or words (at + step * i) 0))

-- the values after a pass over those gates: the gates' entries are filled, the rest stays
unfoldable pub passed : List ℕ → ℕ → ℕ → ℕ → List Three → List Three
passed words at first count values = pass ternary (take first values) (gates_from words at count) ++ drop (first + count) values

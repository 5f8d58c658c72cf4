-- The table as the code fills it: literals by the numbers given, gates by the order given. Assumes nothing.
use Rattle.std.specs.Prelude.{List, ◌++◌, ℕ, ◌+◌, ◌*◌, ◌<◌, ◌≤◌, length, get_or}
use Rattle.three.specs.Lists.{tabulate}
use Rattle.circuit.specs.RulesInCode.{Bounded}
use Rattle.circuit.specs.declared.Counts.{Counts}
use Rattle.circuit.specs.Table.{table_length, literals_at, gates_at, literals}
use Rattle.drawn.specs.Numbers.{pairs}
use Rattle.names.specs.Naming.{Numbers, renamed_by}

unfoldable pub table_by : Counts → List ℕ → List ℕ → List ℕ → List ℕ
table_by c words names order =
    pairs c.latches (λ i. renamed_by names (get_or words (2 * i) 0)) (λ i. get_or words (2 * i + 1) 0)
    ++ (tabulate (literals c) (λ i. renamed_by names (get_or words (literals_at c + i) 0))
    ++ pairs c.gates (λ q. renamed_by names (get_or words (gates_at c + 2 * get_or order q 0) 0)) (λ q. renamed_by names (get_or words (gates_at c + 2 * get_or order q 0 + 1) 0)))

-- Words, numbers and an order that the code can make a table of
pub record Tabled (c : Counts) (words names order : List ℕ) : Type 0 where
  pub bounded : Bounded c
  pub long : table_length c ≤ length words
  pub numbers : Numbers names
  pub literals : (k : ℕ) → k < table_length c → get_or words k 0 < 8192
  pub gates : (q : ℕ) → q < c.gates → get_or order q 0 < c.gates

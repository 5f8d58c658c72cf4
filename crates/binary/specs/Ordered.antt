-- The words of a table with each gate's larger operand first (specification, 4.16). Assumes nothing.
use Rattle.std.specs.Prelude.{List, [], ◌∷◌, ◌++◌, ℕ, zero, suc, ◌+◌, ◌*◌, ◌≤◌, ◌<◌, max, min, get_or, take, drop}
use Rattle.circuit.specs.declared.Counts.{Counts}
use Rattle.circuit.specs.Table.{gates_at}

-- n pairs, each with the larger first
unfoldable pub ordered_pairs : ℕ → List ℕ → List ℕ
ordered_pairs zero ws = []
ordered_pairs (suc n) ws = max (get_or ws 0 0) (get_or ws 1 0) ∷ min (get_or ws 0 0) (get_or ws 1 0) ∷ ordered_pairs n (drop 2 ws)

-- the words of a circuit: latches and lamps as they are, each gate's larger operand first; words beyond are ignored
unfoldable pub ordered : Counts → List ℕ → List ℕ
ordered c table = take (gates_at c) table ++ ordered_pairs c.gates (drop (gates_at c) table)

-- a table that is so ordered
pub record Ordered (c : Counts) (table : List ℕ) : Type 0 where
  pub larger : (i : ℕ) → i < c.gates → get_or table (gates_at c + 2 * i + 1) 0 ≤ get_or table (gates_at c + 2 * i) 0

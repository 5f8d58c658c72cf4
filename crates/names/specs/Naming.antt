-- The new number of each variable, as the code finds it from the order of the gates. Assumes nothing.
use Rattle.std.specs.Prelude.{◌≡◌, true, false, List, ℕ, suc, ◌+◌, ◌*◌, ◌-◌, ◌/◌, ◌%◌, ◌<◌, ◌≤◌, ltb, length, get_or}
use Rattle.drawn.specs.Drawing.{Drawing, leaves, own, gate_at, line_at}

-- the line that gets number r + 1, by an order of the gates
unfoldable pub line_by : List ℕ → ℕ → ℕ → ℕ
line_by order leaves r = elim (ltb r leaves) [ true ↦ r | false ↦ leaves + get_or order (r - leaves) 0 ]

-- Own literals and an order of the gates that the code can follow
pub record Followed (owns order : List ℕ) (leaves gates : ℕ) : Type 0 where
  pub few : leaves + gates ≤ 4095
  pub long : leaves + gates ≤ length owns
  pub gates_few : (q : ℕ) → q < gates → get_or order q 0 < gates
  pub small : (k : ℕ) → k < leaves + gates → get_or owns k 0 < 8192

-- They are a drawing's
pub record Of (d : Drawing) (owns order : List ℕ) (leaves_are gates_are : ℕ) : Type 0 where
  pub owns_same : d.owns ≡ owns
  pub leaves_same : leaves d ≡ leaves_are
  pub gates_same : d.counts.gates ≡ gates_are
  pub order_same : (q : ℕ) → q < gates_are → get_or order q 0 ≡ gate_at d q

-- The first r numbers are given
pub record Marked (d : Drawing) (r : ℕ) (names : List ℕ) : Type 0 where
  pub none : (v : ℕ) → get_or names v 0 ≡ 0 → (s : ℕ) → s < r → own d (line_at d s) ≡ 2 * v → ⊥
  pub some : (v s : ℕ) → get_or names v 0 ≡ suc s → (s < r) × (own d (line_at d s) ≡ 2 * v)

-- Numbers for all variables, each small enough
pub record Numbers (names : List ℕ) : Type 0 where
  pub long : length names ≡ 4096
  pub small : (v : ℕ) → get_or names v 0 ≤ 4095

-- a literal in the numbers given
unfoldable pub renamed_by : List ℕ → ℕ → ℕ
renamed_by names x = 2 * get_or names (x / 2) 0 + x % 2

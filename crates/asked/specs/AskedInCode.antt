-- What is asked, as a relation, and a gate by its words; nothing here has to be believed. Assumes nothing.
use Rattle.std.specs.Prelude.{◌≡◌, true, List, ℕ, ◌+◌, ◌*◌, ◌/◌, eqb, get_or}
use Rattle.circuit.specs.Circuit.{Gate}
use Rattle.asked.specs.Follow.{some}

module _ (follows : ℕ → List ℕ) where
  -- asking about v leads to asking about w
  abbrev pub Leads : ℕ → ℕ → Type 0
  Leads v w = some (λ x. eqb (x / 2) w) (follows v) ≡ true

  -- asking about v reaches u
  pub data Asked : ℕ → ℕ → Type 0 where
    here : {v : ℕ} → Asked v v
    on : {v w u : ℕ} → Leads v w → Asked w u → Asked v u

-- gate number i of those from word `at` on
abbrev pub gate_in : List ℕ → ℕ → ℕ → Gate
gate_in words at i = record { left = get_or words (at + 2 * i) 0; right = get_or words (at + 2 * i + 1) 0 }

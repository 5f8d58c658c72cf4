-- The rules for a table's words as the code goes through them; nothing here has to be believed. Assumes nothing.
use Rattle.std.specs.Prelude.{◌≡◌, Bool, ◌&&◌, true, List, [], ◌∷◌, ℕ, ◌+◌, ◌*◌, ◌≤◌, ◌<◌, leb, ltb, length, get_or}
use Rattle.circuit.specs.declared.Counts.{Counts}
use Rattle.circuit.specs.Table.{top, table_length, literals_at, gates_at, literals}
use Rattle.circuit.specs.Refusal.{Test}
use Rattle.circuit.specs.Circuit.{Gate}
use Rattle.three.specs.Lists.{tabulate}

-- the same rules where a line's words stand at word `at`: 6 and 8 for a latch, 6 for a lamp, and for a gate 7, from which 6 follows
unfoldable pub latch_kept : ℕ → List ℕ → ℕ → Bool
latch_kept most words at = leb (get_or words at 0) most && leb (get_or words (at + 1) 0) 2

unfoldable pub literal_kept : ℕ → List ℕ → ℕ → Bool
literal_kept most words at = leb (get_or words at 0) most

unfoldable pub gate_kept : ℕ → List ℕ → ℕ → Bool
gate_kept own words at = ltb (get_or words at 0) own && ltb (get_or words (at + 1) 0) own

-- counts within the ceilings
pub record Bounded (c : Counts) : Type 0 where
  pub inputs : c.inputs ≤ 256
  pub latches : c.latches ≤ 512
  pub lamps : c.lamps ≤ 64
  pub gates : c.gates ≤ 3327
  pub bads : c.bads ≤ 64
  pub constraints : c.constraints ≤ 64

-- A circuit that 3, 10 and 11 do not refuse, rule by rule
pub record Legal (c : Counts) (words : List ℕ) : Type 0 where
  pub bounded : Bounded c
  pub long : table_length c ≤ length words
  pub next : (i : ℕ) → i < c.latches → get_or words (2 * i) 0 ≤ top c
  pub reset : (i : ℕ) → i < c.latches → get_or words (2 * i + 1) 0 ≤ 2
  pub literal : (i : ℕ) → i < literals c → get_or words (literals_at c + i) 0 ≤ top c
  pub left : (i : ℕ) → i < c.gates → get_or words (gates_at c + 2 * i) 0 < 2 * (1 + c.inputs + c.latches + i)
  pub right : (i : ℕ) → i < c.gates → get_or words (gates_at c + 2 * i + 1) 0 < 2 * (1 + c.inputs + c.latches + i)

-- each of the tests holds, as a fact
abbrev pub Passed : List Test → Type 0
Passed [] = Unit {0}
Passed (t ∷ ts) = (t.holds ≡ true) × Passed ts

-- n gates whose operands stand from word `at` on
abbrev pub gates_from : List ℕ → ℕ → ℕ → List Gate
gates_from words at n = tabulate n (λ i. record { left = get_or words (at + 2 * i) 0; right = get_or words (at + 2 * i + 1) 0 })

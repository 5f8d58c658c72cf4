-- A drawing: what the lines of a text in any order say (specification, 4.11, 4.13); its refusals 20, 21 and 22; the new numbers, and the table. Assumes nothing.
use Rattle.std.specs.Prelude.{Bool, true, false, not, ◌&&◌, ◌||◌, List, [], ◌∷◌, ◌++◌, ℕ, suc, ◌+◌, ◌*◌, ◌-◌, ◌/◌, ◌%◌, leb, ltb, eqb, get_or}
use Rattle.three.specs.Lists.{tabulate, every, first}
use Rattle.circuit.specs.declared.Counts.{Counts}
use Rattle.circuit.specs.Refusal.{Test, ◌or◌}
use Rattle.circuit.specs.Table.{variables, literals_at, gates_at, literals}
use Rattle.drawn.specs.Numbers.{pairs}
use Rattle.drawn.specs.Depth.{Source, leaf, gate, loopless, order}

-- M and the counts; the own literals of the inputs, the latches and the gates, in file order; and the other numbers laid out as in the table:
-- for each latch its next literal and its reset; then the literals of lamps, bad states and constraints; then two operands a gate
pub record Drawing : Type 0 where
  pub most : ℕ
  pub counts : Counts
  pub owns : List ℕ
  pub words : List ℕ

module _ (d : Drawing) where
  -- ---- the lines

  abbrev pub leaves : ℕ
  leaves = d.counts.inputs + d.counts.latches

  -- the lines that define a variable
  abbrev pub lines : ℕ
  lines = variables d.counts

  abbrev pub own : ℕ → ℕ
  own k = get_or d.owns k 0

  abbrev pub next_literal : ℕ → ℕ
  next_literal i = get_or d.words (2 * i) 0

  abbrev pub reset : ℕ → ℕ
  reset i = get_or d.words (2 * i + 1) 0

  -- the lines of one literal: lamps, then bad states, then constraints
  abbrev pub single : ℕ → ℕ
  single i = get_or d.words (literals_at d.counts + i) 0

  abbrev pub left : ℕ → ℕ
  left i = get_or d.words (gates_at d.counts + 2 * i) 0

  abbrev pub right : ℕ → ℕ
  right i = get_or d.words (gates_at d.counts + 2 * i + 1) 0

  -- ---- the gates

  -- the gate that defines a variable, if one does
  unfoldable pub gate_of : ℕ → ℕ
  gate_of v = first d.counts.gates (λ i. eqb (own (leaves + i)) (2 * v))

  unfoldable pub source : ℕ → Source
  source v = elim (ltb (gate_of v) d.counts.gates) [ true ↦ gate (gate_of v) | false ↦ leaf ]

  abbrev pub left_source : ℕ → Source
  left_source i = source (left i / 2)

  abbrev pub right_source : ℕ → Source
  right_source i = source (right i / 2)

  -- the gates by depth, those of equal depth in file order
  unfoldable pub gate_order : List ℕ
  gate_order = order left_source right_source d.counts.gates

  abbrev pub gate_at : ℕ → ℕ
  gate_at p = get_or gate_order p 0

  -- ---- 20, 21 and 22

  -- an own literal is even, from 2 to 2M + 1, and no earlier line's
  unfoldable pub once : ℕ → Bool
  once k = eqb (own k % 2) 0 && (leb 2 (own k) && (leb (own k) (2 * d.most + 1) && every k (λ j. not (eqb (own j) (own k)))))

  -- a literal's variable is 0 or some line's
  unfoldable pub defined : ℕ → Bool
  defined x = eqb (x / 2) 0 || ltb (first lines (λ k. eqb (own k) (2 * (x / 2)))) lines

  unfoldable pub all_defined : Bool
  all_defined =
      every d.counts.latches (λ i. defined (next_literal i))
      && (every (literals d.counts) (λ i. defined (single i))
      && (every d.counts.gates (λ i. defined (left i)) && every d.counts.gates (λ i. defined (right i))))

  unfoldable pub drawing_tests : List Test
  drawing_tests =
      every lines once or 20 ∷ all_defined or 21 ∷ loopless left_source right_source d.counts.gates or 22 ∷ []

  -- ---- new numbers

  -- the line that gets number p + 1: inputs and latches in file order, then the gates
  unfoldable pub line_at : ℕ → ℕ
  line_at p = elim (ltb p leaves) [ true ↦ p | false ↦ leaves + gate_at (p - leaves) ]

  -- the place of a variable among them
  unfoldable pub place : ℕ → ℕ
  place v = first lines (λ p. eqb (own (line_at p)) (2 * v))

  -- old variable to new; 0 for the constant and for a variable that no line defines
  unfoldable pub name : ℕ → ℕ
  name v = elim (ltb (place v) lines) [ true ↦ suc (place v) | false ↦ 0 ]

  unfoldable pub renumbered : List ℕ
  renumbered = tabulate (suc d.most) name

  -- a literal in the new numbers
  unfoldable pub rename : ℕ → ℕ
  rename x = 2 * name (x / 2) + x % 2

  -- the table: latches, lamps, bad states and constraints as they stand, gates in their order, operands as written
  unfoldable pub table : List ℕ
  table =
      pairs d.counts.latches (λ i. rename (next_literal i)) reset
      ++ (tabulate (literals d.counts) (λ i. rename (single i))
      ++ pairs d.counts.gates (λ p. rename (left (gate_at p))) (λ p. rename (right (gate_at p))))

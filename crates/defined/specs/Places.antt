-- Which line defines each variable, as the code holds it: an entry for each variable, 0 for none and 1 + k for line k. Assumes nothing.
use Rattle.std.specs.Prelude.{◌≡◌, Bool, true, false, List, ℕ, suc, ◌+◌, ◌*◌, ◌/◌, ◌<◌, ◌≤◌, length, get_or}
use Rattle.three.specs.Lists.{every}
use Rattle.circuit.specs.declared.Counts.{Counts}
use Rattle.circuit.specs.RulesInCode.{Bounded}
use Rattle.circuit.specs.Table.{variables, table_length}
use Rattle.drawn.specs.Drawing.{Drawing, lines, own, once, source, left_source, right_source, gate_at, drawing_tests}
use Rattle.circuit.specs.Refusal.{refusal}
use Rattle.drawn.specs.Depth.{loopless}
use Rattle.order.specs.Walk.{source_of}

-- the drawing that is held in these
abbrev pub held : ℕ → Counts → List ℕ → List ℕ → Drawing
held most counts owns words = record { most = most; counts = counts; owns = owns; words = words }

module _ (d : Drawing) where
  -- The first k lines are entered
  pub record Entered (k : ℕ) (places : List ℕ) : Type 0 where
    pub within : k ≤ lines d
    pub long : length places ≡ 4096
    pub none : (v : ℕ) → get_or places v 0 ≡ 0 → (j : ℕ) → j < k → own d j ≡ 2 * v → ⊥
    pub some : (v j : ℕ) → get_or places v 0 ≡ suc j → (j < k) × (own d j ≡ 2 * v)
    pub good : (j : ℕ) → j < k → once d j ≡ true

  -- The answer of 20, and every line entered
  pub record Distinct (r : Bool) (places : List ℕ) : Type 0 where
    pub answers : r ≡ every (lines d) (once d)
    pub enters : r ≡ true → Entered (lines d) places

  -- One line more, or the answer of 20
  pub record Entering (k : ℕ) (r : Bool) (places : List ℕ) : Type 0 where
    pub goes : r ≡ true → Entered (k + 1) places
    pub stops : r ≡ false → Distinct false places

-- The sources of `count` operands, one every other word from word `at` on, the first i of them
pub record Sourced (d : Drawing) (words : List ℕ) (at i : ℕ) (out : List ℕ) : Type 0 where
  pub same : (k : ℕ) → k < i → source_of (get_or out k 0) ≡ source d (get_or words (at + 2 * k) 0 / 2)
  pub small : (k : ℕ) → k < i → get_or out k 0 ≤ d.counts.gates

-- The entries are those of some drawing with these counts and words
abbrev pub SomeEntered : Counts → List ℕ → List ℕ → Type 0
SomeEntered c words places = (most : ℕ) × (owns : List ℕ) × Entered (held most c owns words) (variables c) places

-- The answer of 22, and the order of the gates
pub record Judged (d : Drawing) (r : Bool) (order : List ℕ) : Type 0 where
  pub answers : r ≡ loopless (left_source d) (right_source d) d.counts.gates
  pub orders : r ≡ true → (q : ℕ) → q < d.counts.gates → get_or order q 0 ≡ gate_at d q

-- The number of 20, 21 and 22, and where it is 0 the order of the gates
pub record DrawingJudged (d : Drawing) (number : ℕ) (order : List ℕ) : Type 0 where
  pub answers : number ≡ refusal (drawing_tests d)
  pub orders : number ≡ 0 → (q : ℕ) → q < d.counts.gates → get_or order q 0 ≡ gate_at d q

-- The other numbers of the lines, each a literal or a reset
pub record Spoken (c : Counts) (words : List ℕ) : Type 0 where
  pub bounded : Bounded c
  pub long : table_length c ≤ length words
  pub literals : (k : ℕ) → k < table_length c → get_or words k 0 < 8192

-- A gate in the binary form (specification, 4.16): the own literal minus the larger operand, and the larger operand minus the smaller. Assumes nothing.
use Rattle.std.specs.Prelude.{List, [], ◌∷◌, ◌++◌, ℕ, ◌-◌, max, min, leb, ltb}
use Rattle.circuit.specs.Refusal.{Test, ◌or◌}
use Rattle.text.specs.Part.{Part, got, ill}
use Rattle.binary.specs.Difference.{groups, read_difference}

-- the two differences of a gate
pub record Differences : Type 0 where
  pub first : ℕ
  pub second : ℕ

-- operands are put larger first before writing
unfoldable pub differences : ℕ → ℕ → ℕ → Differences
differences own left right = record { first = own - max left right; second = max left right - min left right }

-- both differences, one behind the other
unfoldable pub gate_bytes : Differences → List ℕ
gate_bytes d = groups d.first ++ groups d.second

-- both differences are read before either is judged
unfoldable pub read_gate : List ℕ → Part Differences
read_gate t = elim (read_difference t) [
  | ill ↦ ill
  | got first r ↦ elim (read_difference r) [ got second rest ↦ got (record { first = first; second = second }) rest | ill ↦ ill ]
]

-- 7 where the first difference is 0 or exceeds the own literal, or the second exceeds the first operand
unfoldable pub gate_tests : ℕ → Differences → List Test
gate_tests own d = ltb 0 d.first or 7 ∷ leb d.first own or 7 ∷ leb d.second (own - d.first) or 7 ∷ []

-- the operands, larger first
unfoldable pub operands : ℕ → Differences → List ℕ
operands own d = (own - d.first) ∷ (own - d.first - d.second) ∷ []

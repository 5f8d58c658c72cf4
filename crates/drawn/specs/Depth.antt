-- Depth and loops of gates (specification, 4.12), and the order of the gates. Assumes nothing.
use Rattle.std.specs.Prelude.{Bool, List, ℕ, zero, suc, max, leb}
use Rattle.three.specs.Lists.{every}
use Rattle.drawn.specs.Numbers.{by_key}

-- What a variable is: a constant, an input or a latch; or gate i of the text
pub data Source : Type 0 where
  leaf : Source
  gate : ℕ → Source

-- the operands of gate i
module _ (left right : ℕ → Source) where
  -- 0 for a leaf, and for a gate one more than the deeper operand: followed n steps down, so the whole depth where it is below n
  unfoldable pub depth : ℕ → Source → ℕ
  depth zero s = 0
  depth (suc n) s = elim s [ leaf ↦ 0 | gate i ↦ suc (max (depth n (left i)) (depth n (right i))) ]

  -- the depth of gate i, one of so many: followed one step further than there are gates
  unfoldable pub deep : ℕ → ℕ → ℕ
  deep count i = depth (suc count) (gate i)

  -- no gate is deeper than there are gates
  unfoldable pub loopless : ℕ → Bool
  loopless count = every count (λ i. leb (deep count i) count)

  -- the gates by depth, those of equal depth in file order
  unfoldable pub order : ℕ → List ℕ
  order count = by_key count (deep count) (suc count)

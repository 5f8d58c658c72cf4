-- `names::line_at` meets its contract. Assumes nothing.
use native.Mathlib.Omega.{arith}
use Rattle.names.proofs.Marking.{line_of_leaf, line_of_gate, gate_line_small}
use Rattle.names.proofs.line_at.Goals as goal

pub returns-then-r-leaves : goal.returns-then-r-leaves
returns-then-r-leaves c = line_of_leaf _ _ _ c.if-r-leaves.true

pub overflow_add-result : goal.overflow_add-result
overflow_add-result c =
    let pre = c.requires in
    omega (arith, gate_line_small _ _ _ _ _ pre.0 c.if-r-leaves.false pre.1)

pub returns : goal.returns
returns c = line_of_gate _ _ _ c.if-r-leaves.false

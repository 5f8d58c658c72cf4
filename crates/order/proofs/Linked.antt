-- Operands in arrays that are a drawing's: the loop test is the drawing's, and the order found is the order of its gates. Assumes nothing.
use mathlib.Core.Path.{◌≡◌, refl, sym, ap, ◌∙◌}
use mathlib.Core.Bool.{Bool, true}
use mathlib.Core.List.{List}
use Prim.Native.Nat.{ℕ, suc, ◌<◌, ◌≤◌}
use native.Mathlib.Omega.{arith}
use borrow.Author.Tests.{leb-true}
use lib.Dec.{leb}
use lib.ListN.{get_or}
use Rattle.three.proofs.Lists.{every_at}
use Rattle.drawn.specs.Depth.{gate, depth, deep, loopless, order}
use Rattle.drawn.specs.Drawing.{Drawing, left_source, right_source, gate_order, gate_at}
use Rattle.drawn.proofs.Loops.{depth_gate}
use Rattle.drawn.proofs.Alike.{by_key_ext, deep_same, loopless_same}
use Rattle.order.specs.Walk.{operand, Operands, Found}
use Rattle.order.specs.Sort.{Depths, key, Ordered}
use Rattle.order.proofs.Walks.{left_below, right_below}

module _ (left right : List ℕ) (count : ℕ) (given : Operands left right count) where
  -- depths found are depths to sort by
  pub found_depths : (depths : List ℕ) → Found left right count true depths → Depths count depths
  unfolding loopless deep
  found_depths depths f = record {
    few = given.few;
    some = λ i h. let q = depth_gate (operand left) (operand right) (suc count) i (omega (arith, shallow i h)) in omega (arith, f.fills refl i h, q);
    small = λ i h. omega (arith, f.fills refl i h, shallow i h);
  }
    where
      shallow : (i : ℕ) → i < count → depth (operand left) (operand right) (suc count) (gate i) ≤ count
      shallow i h = leb-true (depth (operand left) (operand right) (suc count) (gate i)) count
          (every_at count (λ i. leb (depth (operand left) (operand right) (suc count) (gate i)) count) (sym f.answers) i h)

module _ (d : Drawing) (left right : List ℕ) (given : Operands left right d.counts.gates)
    (lefts : (i : ℕ) → i < d.counts.gates → operand left i ≡ left_source d i) (rights : (i : ℕ) → i < d.counts.gates → operand right i ≡ right_source d i) where
  abbrev count : ℕ
  count = d.counts.gates

  pub found_loopless : {r : Bool} {depths : List ℕ} → Found left right count r depths → r ≡ loopless (left_source d) (right_source d) count
  found_loopless f =
      f.answers ∙ loopless_same (operand left) (operand right) (left_source d) (right_source d) count lefts rights (left_below left right count given) (right_below left right count given)

  pub found_order : (depths order' : List ℕ) → Found left right count true depths → Ordered count depths order' → (q : ℕ) → q < count → get_or order' q 0 ≡ gate_at d q
  unfolding gate_order order
  found_order depths order' f o q h =
      o.same q h
      ∙ ap (λ (xs : List ℕ). get_or xs q 0) (by_key_ext count (key count depths) (deep (left_source d) (right_source d) count) (suc count)
      (λ i l. f.fills refl i l ∙ deep_same (operand left) (operand right) (left_source d) (right_source d) count lefts rights (left_below left right count given) (right_below left right count given) i l))

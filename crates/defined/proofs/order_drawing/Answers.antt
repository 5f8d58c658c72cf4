-- `defined::order_drawing` meets its contract: sources, depths, order. Assumes nothing.
use mathlib.Core.Path.{refl}
use Prim.Native.Nat.{ℕ}
use native.Mathlib.Omega.{arith}
use lib.ListN.{length-replicate, get_or-replicate}
use Rattle.defined.proofs.Ordering.{operands, depths_ready, loops_judged, order_judged}
use Rattle.defined.proofs.order_drawing.Goals as goal

pub invariant_of-gates : goal.invariant_of-gates
invariant_of-gates c =
    let pre = c.requires in
    let gates = c.gates_at-gates_at.ensures in
    let ls = rw gates at c.find_sources.ensures in
    let rs = rw gates at c.find_sources-2.ensures in
    record { operands = operands _ _ _ _ refl _ _ ls.1 rs.1 pre.0 pre.1 ls.0 rs.0 }

pub find_depths-requires : goal.find_depths-requires
find_depths-requires c =
    let pre = c.requires in
    (length-replicate {A = ℕ} 4096 0, λ i h. get_or-replicate {A = ℕ} 4096 i 0 0 (omega (arith, pre.0.bounded.gates, h)))

pub returns-then-not-find_depths : goal.returns-then-not-find_depths
returns-then-not-find_depths c =
    let pre = c.requires in
    let gates = c.gates_at-gates_at.ensures in
    let ls = rw gates at c.find_sources.ensures in
    let rs = rw gates at c.find_sources-2.ensures in
    let ops = operands _ _ _ _ refl _ _ ls.1 rs.1 pre.0 pre.1 ls.0 rs.0 in
    λ most owns e. loops_judged _ _ _ _ refl _ _ ls.1 rs.1 ops most owns e _ c.find_depths.ensures c.if-not-find_depths.true

pub order_gates-requires : goal.order_gates-requires
order_gates-requires c =
    let pre = c.requires in
    let gates = c.gates_at-gates_at.ensures in
    let ls = rw gates at c.find_sources.ensures in
    let rs = rw gates at c.find_sources-2.ensures in
    let ops = operands _ _ _ _ refl _ _ ls.1 rs.1 pre.0 pre.1 ls.0 rs.0 in
    (depths_ready _ _ _ ops _ c.find_depths.ensures c.if-not-find_depths.false, pre.2)

pub returns : goal.returns
returns c =
    let pre = c.requires in
    let gates = c.gates_at-gates_at.ensures in
    let ls = rw gates at c.find_sources.ensures in
    let rs = rw gates at c.find_sources-2.ensures in
    let ops = operands _ _ _ _ refl _ _ ls.1 rs.1 pre.0 pre.1 ls.0 rs.0 in
    λ most owns e. order_judged _ _ _ _ refl _ _ ls.1 rs.1 ops most owns e _ _ c.find_depths.ensures c.if-not-find_depths.false c.order_gates.ensures

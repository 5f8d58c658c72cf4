use mathlib.Core.Path.{refl, ◌∙◌}
use Prim.Native.Nat.{ℕ, ◌+◌}
use native.Mathlib.Omega.{arith}
use lib.ListN.{length-set}
use Rattle.names.proofs.Marking.{line_by_small, name_room, marked_first, marked_next, marked_last}
use Rattle.names.proofs.name_lines.Goals as goal

pub overflow_add-lines : goal.overflow_add-lines
overflow_add-lines c = omega (arith, c.requires.0.few)

pub loop-r-init : goal.loop-r-init
loop-r-init c = let pre = c.requires in (pre.1, omega arith, λ d p o. marked_first d _ pre.2)

pub line_at-k-requires : goal.line_at-k-requires
line_at-k-requires c = (c.requires.0, c.loop-r-test.true)

pub offset_bounds-owns-k : goal.offset_bounds-owns-k
offset_bounds-owns-k c =
    let pre = c.requires in
    omega (arith, pre.0.few, pre.0.long, c.line_at-k.ensures, line_by_small _ _ _ _ _ pre.0 c.loop-r-test.true)

pub bounds-owns-k : goal.bounds-owns-k
bounds-owns-k c =
    let pre = c.requires in
    omega (arith, pre.0.few, pre.0.long, c.line_at-k.ensures, line_by_small _ _ _ _ _ pre.0 c.loop-r-test.true)

pub overflow_add-names : goal.overflow_add-names
overflow_add-names c =
    let pre = c.requires in
    omega (arith, pre.0.few)

pub overflow_cast-names : goal.overflow_cast-names
overflow_cast-names c =
    let pre = c.requires in
    omega (arith, pre.0.few)

pub offset_bounds-names-v : goal.offset_bounds-names-v
offset_bounds-names-v c =
    let pre = c.requires in
    omega (arith, name_room _ _ _ _ _ _ pre.0 c.loop-r-test.true c.line_at-k.ensures)

pub bounds-names-v : goal.bounds-names-v
bounds-names-v c =
    let pre = c.requires in
    omega (arith, name_room _ _ _ _ _ _ pre.0 c.loop-r-test.true c.line_at-k.ensures)

pub loop-r-preserved : goal.loop-r-preserved
loop-r-preserved c =
    let pre = c.requires in
    let s = c.loop-r.invariant in
    let room = name_room _ _ _ _ _ _ pre.0 c.loop-r-test.true c.line_at-k.ensures in (
      length-set {A = ℕ} c.loop-r.names _ (c.loop-r.r + 1) ∙ s.0,
      omega arith,
      λ d p o. marked_next d p _ _ _ _ o _ _ _ _ (s.2 d p o) c.loop-r-test.true c.line_at-k.ensures refl (omega (arith, s.0, room)),
    )

pub returns : goal.returns
returns c = let s = c.loop-r.invariant in (s.0, λ d p o. marked_last d p _ _ _ _ o _ _ (s.2 d p o) (omega arith))

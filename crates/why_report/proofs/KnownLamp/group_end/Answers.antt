use mathlib.Core.Path.{refl, sym, ◌∙◌}
use Rattle.circuit.proofs.Legality.{legal}
use native.Mathlib.Omega.{arith}
use Rattle.reasons.proofs.Groups.{group_first, group_next, group_ends, group_last}
use Rattle.why_report.proofs.Explaining.{same_bytes, group_is}
use Rattle.why_report.proofs.KnownLamp.group_end.Goals as goal

pub loop-k-init : goal.loop-k-init
loop-k-init c = (group_first _ _ _ c.requires.0, refl)

pub explain_cube-requires : goal.explain_cube-requires
explain_cube-requires c = (c.loop-k-test.true, c.loop-k.invariant.1)

pub slice_bounds-same_fields-end-in-loop-k : goal.slice_bounds-same_fields-end-in-loop-k
slice_bounds-same_fields-end-in-loop-k c = sym c.explain_cube.ensures.1

pub same_fields-requires : goal.same_fields-requires
same_fields-requires c = let few = (legal _ _ c.args.self.now.ready.are.accepts).bounded in (omega (arith, few), omega (arith, few, c.explain_cube.ensures.1))

pub returns-then-not-same_fields : goal.returns-then-not-same_fields
returns-then-not-same_fields c = group_is _ _ _ _ _ _ _ (group_ends _ _ _ c.loop-k.invariant.0 c.loop-k-test.true (sym (same_bytes _ _ _ _ _ _ _ _ _ c.requires.1 _ c.explain_cube.ensures.0 c.same_fields.ensures) ∙ c.if-not-same_fields.true))

pub loop-k-preserved : goal.loop-k-preserved
loop-k-preserved c = (group_next _ _ _ c.loop-k.invariant.0 c.loop-k-test.true (sym (same_bytes _ _ _ _ _ _ _ _ _ c.requires.1 _ c.explain_cube.ensures.0 c.same_fields.ensures) ∙ c.if-not-same_fields.false), c.explain_cube.ensures.1)

pub returns : goal.returns
returns c = group_is _ _ _ _ _ _ _ (group_last _ _ _ c.loop-k.invariant.0 c.loop-k-test.false)

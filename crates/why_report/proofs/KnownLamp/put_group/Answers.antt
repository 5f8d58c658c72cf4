-- `why_report::KnownLamp::put_group` meets its contract: the explanation, the end of its group, and the line. Assumes nothing.
use mathlib.Core.Path.{refl, sym}
use native.Mathlib.Omega.{arith}
use Rattle.circuit.proofs.Legality.{legal}
use Rattle.why_report.proofs.Explaining.{group_piece}
use Rattle.why_report.proofs.KnownLamp.put_group.Goals as goal

pub explain_cube-requires : goal.explain_cube-requires
explain_cube-requires c = (c.requires, refl)

pub group_end-last-requires : goal.group_end-last-requires
group_end-last-requires c = (c.requires, record { rest = _; is = c.explain_cube.ensures.0 })

pub slice_bounds-put_line-end-2 : goal.slice_bounds-put_line-end-2
slice_bounds-put_line-end-2 c = sym c.explain_cube.ensures.1

pub put_line-bytes-requires : goal.put_line-bytes-requires
put_line-bytes-requires c = let few = (legal _ _ c.args.self.now.ready.are.accepts).bounded in (omega (arith, few), omega (arith, few, c.explain_cube.ensures.1))

pub returns : goal.returns
returns c =
    let last = c.group_end-last.ensures in
    (group_piece _ _ _ _ _ _ _ _ last (record { rest = _; is = c.explain_cube.ensures.0 }) c.put_line-bytes.ensures, omega (arith, last.after), omega (arith, last.below))

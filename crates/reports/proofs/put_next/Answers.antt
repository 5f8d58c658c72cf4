-- `reports::put_next` meets its contract: the next size, and the report on as many bytes. Assumes nothing.
use mathlib.Core.Path.{refl}
use native.Mathlib.Omega.{arith}
use Rattle.reports.proofs.Framing.{always_size, next_fits, next_framed, next_piece}
use Rattle.reports.proofs.put_next.Goals as goal

pub unwrap-size-requires : goal.unwrap-size-requires
unwrap-size-requires c = always_size _ _ c.requires.0 c.requires.1 c.size_at.ensures

pub overflow_add-end : goal.overflow_add-end
overflow_add-end c =
    omega (arith, next_fits _ _ c.requires.0 c.requires.1 c.size_at.ensures c.unwrap-size.ensures, c.well_formed)

pub slice_bounds-report-end : goal.slice_bounds-report-end
slice_bounds-report-end c =
    omega (arith, next_fits _ _ c.requires.0 c.requires.1 c.size_at.ensures c.unwrap-size.ensures)

pub returns : goal.returns
returns c =
    let size = c.size_at.ensures in
    (next_piece _ _ c.requires.0 c.requires.1 size c.unwrap-size.ensures c.report-bytes.ensures, next_framed _ _ c.requires.0 c.requires.1 size c.unwrap-size.ensures, refl)

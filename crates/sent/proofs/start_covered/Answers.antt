-- `sent::start_covered` meets its contract: cube 0 is stored, and sought; where it is found in no cube a constraint decides. Assumes nothing.
use mathlib.Core.Path.{sym, ◌∙◌}
use Rattle.cubes.proofs.StoredCube.{few_bytes}
use Rattle.sent.proofs.Walking.{of_length, start_found, start_missed}
use native.Mathlib.Omega.{arith}
use Rattle.sent.proofs.start_covered.Goals as goal

pub find-requires : goal.find-requires
find-requires c =
    let pre = c.requires in
    let size = c.cube_bytes-len.ensures in
    let short = few_bytes c.args.board.now.legal.bounded.latches in
    (rw size pre.fits, omega (arith, short, size), omega (arith, short, size))

pub returns-then-is_some : goal.returns-then-is_some
returns-then-is_some c =
    let s = of_length _ _ _ _ c.args.board.now.legal c.requires c.cube_bytes-len.ensures in
    let found = sym c.is_some.ensures ∙ c.if-is_some.true in
    c.if-is_some.true ∙ start_found _ _ _ _ _ s (λ i. (c.type_inv.cubes i).fits) _ _ c.find.ensures c.store_start.ensures found

pub returns-else-is_some : goal.returns-else-is_some
returns-else-is_some c =
    let s = of_length _ _ _ _ c.args.board.now.legal c.requires c.cube_bytes-len.ensures in
    let missed = sym c.is_some.ensures ∙ c.if-is_some.false in
    start_missed _ _ _ _ _ s (λ i. (c.type_inv.cubes i).fits) _ _ c.find.ensures c.store_start.ensures missed c.start_blocked.ensures

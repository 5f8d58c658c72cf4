-- `judged::starts` meets its contract: the resets are stored, and compared with cube 0, where there is one, both ways. Assumes nothing.
use mathlib.Core.Path.{sym, ◌∙◌}
use borrow.Author.Tests.{lt-ltb, le-ltb}
use Rattle.cubes.proofs.StoredCube.{few_bytes}
use Rattle.judged.proofs.Finding.{first_cube}
use Rattle.judged.proofs.Walking.{then_not, then_asked, same_fails, same_decided, start_inside, start_around}
use native.Mathlib.Omega.{arith}
use Rattle.judged.proofs.starts.Goals as goal

pub returns-then-n-eq0 : goal.returns-then-n-eq0
returns-then-n-eq0 c = then_not _ (le-ltb 0 c.args.n (omega arith))

pub subsumes-requires : goal.subsumes-requires
subsumes-requires c =
    let size = c.cube_bytes-len.ensures in
    let few = few_bytes c.args.board.now.legal.bounded.latches in
    let cube = first_cube _ _ _ c.requires (omega arith) in
    (omega (arith, size, cube.fits), omega (arith, few, size), omega (arith, few, size))

pub returns-then-not-subsumes : goal.returns-then-not-subsumes
returns-then-not-subsumes c =
    let pre = c.requires in
    let cube = first_cube _ _ _ pre (omega arith) in
    then_asked (lt-ltb 0 c.args.n (omega arith)) (same_fails _ _ (sym (start_inside _ _ _ (λ i. (c.type_inv.cubes i).fits) _ c.cube_bytes-len.ensures cube _ c.store_start.ensures c.subsumes.ensures) ∙ c.if-not-subsumes.true))

pub marked-around-requires : goal.marked-around-requires
marked-around-requires c =
    let size = c.cube_bytes-len.ensures in
    let few = few_bytes c.args.board.now.legal.bounded.latches in
    (omega (arith, few, size), omega (arith, few, size))

pub covers-requires : goal.covers-requires
covers-requires c =
    let size = c.cube_bytes-len.ensures in
    let cube = first_cube _ _ _ c.requires (omega arith) in
    (omega (arith, few_bytes c.args.board.now.legal.bounded.latches, size), omega (arith, size, cube.fits))

pub returns : goal.returns
returns c =
    let pre = c.requires in
    let cube = first_cube _ _ _ pre (omega arith) in
    let size = c.cube_bytes-len.ensures in
    let stored = c.store_start.ensures in
    then_asked (lt-ltb 0 c.args.n (omega arith)) (same_decided _ _ (sym (start_inside _ _ _ (λ i. (c.type_inv.cubes i).fits) _ size cube _ stored c.subsumes.ensures) ∙ c.if-not-subsumes.false) (start_around _ _ _ (λ i. (c.type_inv.cubes i).fits) _ size cube _ stored _ _ c.marked-around.ensures c.covers.ensures))

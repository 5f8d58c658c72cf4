-- `chain::make_chain` meets its contract: where no constraint is 0 in cube 0 it is stored, and followed. Assumes nothing.
use mathlib.Core.Path.{refl, sym, ◌∙◌}
use Rattle.pass.proofs.WorkingTable.{fresh_begins}
use Rattle.stored.proofs.Constraining.{start_record, start_is_blocked}
use Rattle.chain.proofs.Beginning.{start_followable, chained_from, chained_none}
use Rattle.cubes.proofs.StoredCube.{some_bytes, few_bytes}
use native.Mathlib.Omega.{arith}
use Rattle.chain.proofs.make_chain.Goals as goal

pub blocked-requires : goal.blocked-requires
blocked-requires c =
    let b = c.args.board.now in
    let ranges = b.legal.bounded in
    (start_record b.counts _ _ _ c.store_start.ensures (omega (arith, ranges)), fresh_begins _ b.counts.inputs (omega (arith, ranges.inputs)) c.fresh-values.ensures)

pub returns-then-blocked : goal.returns-then-blocked
returns-then-blocked c =
    let read = start_is_blocked c.args.board.now.counts _ _ _ c.store_start.ensures c.blocked.ensures.0 in
    chained_none c.args.board.now.counts _ _ _ (sym read ∙ c.if-blocked.true)

pub store_cube-requires : goal.store_cube-requires
store_cube-requires c =
    let size = c.cube_bytes-len.ensures in
    (omega (arith, size, few_bytes c.args.board.now.legal.bounded.latches), omega (arith, size, c.requires.0))

pub nonzero_div-room : goal.nonzero_div-room
nonzero_div-room c = omega (arith, c.cube_bytes-len.ensures, some_bytes c.args.board.now.counts.latches)

pub follow-requires : goal.follow-requires
follow-requires c =
    let size = c.cube_bytes-len.ensures in
    let starts = c.store_start.ensures in
    let plain = c.mark.ensures in
    let stored = c.store_cube.ensures in
    let read = c.blocked.ensures in
    let free = sym (start_is_blocked c.args.board.now.counts _ _ _ starts read.0) ∙ c.if-blocked.false in
    (start_followable _ _ 0 c.args.cubes.now _ _ _ _ size c.requires.0 starts plain stored free c.requires.1 _ refl, read.1)

pub returns : goal.returns
returns c =
    let size = c.cube_bytes-len.ensures in
    let starts = c.store_start.ensures in
    let plain = c.mark.ensures in
    let stored = c.store_cube.ensures in
    let made = c.follow.ensures in
    chained_from _ _ _ c.args.cubes.now _ _ _ _ size c.requires.0 starts plain stored _ _ made.0 made.1

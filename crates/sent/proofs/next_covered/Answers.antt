-- `sent::next_covered` meets its contract: a pass is made over the cube, and its next state is stored, and sought; where it is found in no cube a constraint decides. Assumes nothing.
use mathlib.Core.Path.{sym, ◌∙◌}
use Rattle.cubes.proofs.StoredCube.{cube_of_sized}
use Rattle.stored.proofs.Reaching.{ready_again}
use Rattle.sent.proofs.Walking.{sendable, len_few, next_found, next_missed, next_record}
use native.Mathlib.Omega.{arith}
use Rattle.sent.proofs.next_covered.Goals as goal

pub find-requires : goal.find-requires
find-requires c =
    let short = len_few _ _ _ _ _ (sendable _ _ _ _ _ c.args.board.now.legal c.requires.0) in
    (c.requires.0.fits, short, omega (arith, short))

pub returns-then-is_some : goal.returns-then-is_some
returns-then-is_some c =
    let s = sendable _ _ _ _ _ c.args.board.now.legal c.requires.0 in
    let seen = c.watched_at.ensures in
    (next_found _ _ _ _ _ s (λ i. (c.type_inv.cubes i).fits) _ _ c.find.ensures _ (cube_of_sized _ _) _ seen.0 c.store.ensures (sym c.is_some.ensures ∙ c.if-is_some.true), ready_again _ _ _ _ seen.0, seen.1)

pub blocked-requires : goal.blocked-requires
blocked-requires c =
    let s = sendable _ _ _ _ _ c.args.board.now.legal c.requires.0 in
    let seen = c.watched_at.ensures in
    (next_record _ _ _ _ _ s _ (cube_of_sized _ _) _ seen.0 _ c.store.ensures, ready_again _ _ _ _ seen.0)

pub returns : goal.returns
returns c =
    let s = sendable _ _ _ _ _ c.args.board.now.legal c.requires.0 in
    let seen = c.watched_at.ensures in
    (next_missed _ _ _ _ _ s (λ i. (c.type_inv.cubes i).fits) _ _ c.find.ensures _ (cube_of_sized _ _) _ seen.0 c.store.ensures (sym c.is_some.ensures ∙ c.if-is_some.false) c.blocked.ensures.0, c.blocked.ensures.1, seen.1)

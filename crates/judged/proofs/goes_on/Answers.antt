-- `judged::goes_on` meets its contract: a pass is made over the cube, and its next state is stored, and compared; where it lies outside the constraints decide. Assumes nothing.
use Rattle.cubes.proofs.StoredCube.{few_bytes, cube_of_sized}
use Rattle.stored.proofs.Reaching.{ready_again}
use Rattle.judge.proofs.Nexts.{next_record, next_blocked}
use Rattle.judged.proofs.Walking.{next_lies, goes_inside, goes_blocked}
use Rattle.std.proofs.lemmas.Option.{IfSome_then}
use native.Mathlib.Omega.{arith}
use Rattle.judged.proofs.goes_on.Goals as goal

pub lies_inside-requires : goal.lies_inside-requires
lies_inside-requires c =
    let size = c.cube_bytes.ensures in
    let few = few_bytes c.args.board.now.legal.bounded.latches in
    (IfSome_then c.args.after c.requires.2 (λ m stands. rw size stands.0), omega (arith, few, size), omega (arith, few, size))

pub returns-then-lies_inside : goal.returns-then-lies_inside
returns-then-lies_inside c =
    let seen = c.watched_at.ensures in
    let lies = next_lies _ _ _ (λ i. (c.type_inv.cubes i).fits) _ c.cube_bytes.ensures c.args.board.now.legal _ (cube_of_sized _ _) _ _ seen.0 c.store.ensures c.args.after c.requires.2 c.lies_inside.ensures in
    (goes_inside _ _ _ _ lies c.if-lies_inside.true, ready_again _ _ _ _ seen.0, seen.1)

pub blocked-requires : goal.blocked-requires
blocked-requires c =
    let legal = c.args.board.now.legal in
    let seen = c.watched_at.ensures in
    (next_record _ _ legal _ (cube_of_sized _ _) _ seen.0 _ _ c.store.ensures (omega (arith, legal.bounded.latches)), ready_again _ _ _ _ seen.0)

pub returns : goal.returns
returns c =
    let legal = c.args.board.now.legal in
    let seen = c.watched_at.ensures in
    let lies = next_lies _ _ _ (λ i. (c.type_inv.cubes i).fits) _ c.cube_bytes.ensures legal _ (cube_of_sized _ _) _ _ seen.0 c.store.ensures c.args.after c.requires.2 c.lies_inside.ensures in
    (goes_blocked _ _ _ _ lies c.if-lies_inside.false (next_blocked _ _ legal _ (cube_of_sized _ _) _ seen.0 _ _ c.store.ensures c.blocked.ensures.0), c.blocked.ensures.1, seen.1)

-- `sent::cover` meets its contract: refused at one of its numbers, or accepted. Assumes nothing.
use mathlib.Core.Path.{refl, ap}
use Prim.Native.Nat.{◌<◌}
use lib.ListN.{length}
use Rattle.three.specs.Record.{bytes_for}
use Rattle.circuit.specs.Table.{verdicts}
use Rattle.circuit.proofs.Answering.{numbered}
use Rattle.cubes.proofs.Given.{given_passes}
use native.Mathlib.Omega.{arith}
use Rattle.std.proofs.lemmas.Result.{err_from_is_err_and}
use Rattle.sent.proofs.Calling.{given_refused, start_refused, next_refused, verdict_refused, accepted}
use Rattle.sent.proofs.Promising.{promises}
use Rattle.sent.proofs.cover.Goals as goal

pub returns-in_err-board : goal.returns-in_err-board
returns-in_err-board c =
    let refusal = err_from_is_err_and c.from_residual.result c.from_residual.ensures.1 in
    rw (refusal.1, refusal.2)
    (let sent = given_refused _ c.in_err-board.ensures.number (numbered _) in (sent, promises _ _ _ sent))

pub start_covered-requires : goal.start_covered-requires
start_covered-requires c =
    let board = c.in_ok-board.ensures in
    rw board.same.0 (given_passes _ _ _ _ board.number).1

pub returns-then-not-start_covered : goal.returns-then-not-start_covered
returns-then-not-start_covered c =
    let board = c.in_ok-board.ensures in
    let start = rw (board.same.0, board.same.1) at c.start_covered.ensures in
    let sent = start_refused _ board.number refl start c.if-not-start_covered.true in
    (sent, promises _ _ _ sent)

pub first_uncovered-requires : goal.first_uncovered-requires
first_uncovered-requires c =
    let board = c.in_ok-board.ensures in
    (rw board.same.0 (given_passes _ _ _ _ board.number).1, omega (arith, c.in_ok-board.board.legal.bounded))

pub returns-in-Some : goal.returns-in-Some
returns-in-Some c =
    let board = c.in_ok-board.ensures in
    let start = rw (board.same.0, board.same.1) at c.start_covered.ensures in
    let walked = rw (board.same.0, board.same.1) at c.in-Some.ensures in
    let sent = next_refused _ board.number refl start c.if-not-start_covered.false walked in
    (sent, promises _ _ _ sent)

pub returns-then-verdict-len : goal.returns-then-verdict-len
returns-then-verdict-len c =
    let board = c.in_ok-board.ensures in
    let start = rw (board.same.0, board.same.1) at c.start_covered.ensures in
    let walked = rw (board.same.0, board.same.1) at c.in_default.ensures in
    let short : length c.args.verdict.now < bytes_for (verdicts c.args.counts) = omega (arith, ap bytes_for c.verdicts.ensures) in
    let sent = verdict_refused _ board.number refl start c.if-not-start_covered.false walked short in
    (sent, promises _ _ _ sent)

pub returns : goal.returns
returns c =
    let board = c.in_ok-board.ensures in
    let start = rw (board.same.0, board.same.1) at c.start_covered.ensures in
    let walked = rw (board.same.0, board.same.1) at c.in_default.ensures in
    let long = rw c.verdicts.ensures at c.record_length-len.ensures in
    let sent = accepted _ board.number refl start c.if-not-start_covered.false walked long (omega (arith, long)) c.copy_from_slice.ensures.after in
    (sent, promises _ _ _ sent)

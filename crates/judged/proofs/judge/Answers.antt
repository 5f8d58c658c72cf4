-- `judged::judge` meets its contract: refused at one of its numbers, or accepted. Assumes nothing.
use mathlib.Core.Path.{refl, ap}
use Prim.Native.Nat.{◌<◌, ◌≤◌}
use lib.ListN.{length}
use Rattle.three.specs.Record.{bytes_for}
use Rattle.circuit.specs.Table.{verdicts}
use Rattle.circuit.proofs.Answering.{numbered}
use Rattle.cubes.specs.Judge.{JudgeGiven}
use Rattle.cubes.proofs.Given.{given_passes}
use Rattle.cubes.proofs.Promising.{promises}
use Rattle.judged.proofs.Calling.{given_refused, chain_refused, chain_within, verdict_refused, settled_refused, accepted}
use Rattle.std.proofs.lemmas.Result.{err_from_is_err_and}
use native.Mathlib.Omega.{arith}
use Rattle.judged.proofs.judge.Goals as goal

pub returns-in_err-board : goal.returns-in_err-board
returns-in_err-board c =
    let refusal = err_from_is_err_and c.from_residual.result c.from_residual.ensures.1 in
    rw (refusal.1, refusal.2)
    (let judged = given_refused _ c.in_err-board.ensures.number (numbered _) in (judged, promises _ _ _ _ judged))

pub is_chain-requires : goal.is_chain-requires
is_chain-requires c =
    let are = given_passes _ _ _ _ c.in_ok-board.ensures.number in
    (rw c.in_ok-board.ensures.same.0 are.1, omega (arith, c.in_ok-board.board.legal.bounded))

pub returns-then-not-is_chain : goal.returns-then-not-is_chain
returns-then-not-is_chain c =
    let same = c.in_ok-board.ensures.same in
    let judged = chain_refused _ c.in_ok-board.ensures.number refl (rw (same.0, same.1) at c.is_chain.ensures) c.if-not-is_chain.true in
    (judged, promises _ _ _ _ judged)

pub returns-then-verdict-record_length : goal.returns-then-verdict-record_length
returns-then-verdict-record_length c =
    let same = c.in_ok-board.ensures.same in
    let short : length c.args.verdict.now < bytes_for (verdicts c.args.counts) = omega (arith, c.record_length.ensures, ap bytes_for c.verdicts.ensures) in
    let judged = verdict_refused _ c.in_ok-board.ensures.number refl (rw (same.0, same.1) at c.is_chain.ensures) c.if-not-is_chain.false short in
    (judged, promises _ _ _ _ judged)

pub returns-then-settled-record_length : goal.returns-then-settled-record_length
returns-then-settled-record_length c =
    let same = c.in_ok-board.ensures.same in
    let fits : bytes_for (verdicts c.args.counts) ≤ length c.args.verdict.now = omega (arith, c.record_length.ensures, ap bytes_for c.verdicts.ensures) in
    let short : length c.args.settled.now < bytes_for c.args.counts.latches = omega (arith, c.record_length-2.ensures) in
    let judged = settled_refused _ c.in_ok-board.ensures.number refl (rw (same.0, same.1) at c.is_chain.ensures) c.if-not-is_chain.false fits short in
    (judged, promises _ _ _ _ judged)

pub write_results-requires : goal.write_results-requires
write_results-requires c =
    let same = c.in_ok-board.ensures.same in
    let passed = c.in_ok-board.ensures.number in
    let are = given_passes _ _ _ _ passed in
    let fits : bytes_for (verdicts c.args.counts) ≤ length c.args.verdict.now = omega (arith, c.record_length.ensures, ap bytes_for c.verdicts.ensures) in
    let room : bytes_for c.args.counts.latches ≤ length c.args.settled.now = omega (arith, c.record_length-2.ensures) in
    let given : JudgeGiven = record { counts = c.args.counts; table = c.args.table.now; cubes = c.args.cubes.now; n = c.args.n; j = c.args.j; verdict = c.args.verdict.now; settled = c.args.settled.now } in
    let within = chain_within given passed refl (rw (same.0, same.1) at c.is_chain.ensures) c.if-not-is_chain.false in
    rw same.0 (are.1, within, omega (arith, are.0.bounded), fits, room)

pub returns : goal.returns
returns c =
    let same = c.in_ok-board.ensures.same in
    let fits : bytes_for (verdicts c.args.counts) ≤ length c.args.verdict.now = omega (arith, c.record_length.ensures, ap bytes_for c.verdicts.ensures) in
    let room : bytes_for c.args.counts.latches ≤ length c.args.settled.now = omega (arith, c.record_length-2.ensures) in
    let judged = accepted _ c.in_ok-board.ensures.number refl (rw (same.0, same.1) at c.is_chain.ensures) c.if-not-is_chain.false fits room (rw same.0 at c.write_results.ensures) in
    (judged, promises _ _ _ _ judged)

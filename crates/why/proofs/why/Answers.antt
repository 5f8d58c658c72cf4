-- `why::why` meets its contract: it answers the first refusal and leaves everything, or does the work. Assumes nothing.
use Rattle.std.proofs.lemmas.Result.{err_from_is_err_and}
use Rattle.circuit.proofs.Answering.{numbered}
use Rattle.asked.proofs.Refusing.{given_facts, circuit_stops, given_stops}
use Rattle.asked.proofs.Promising.{promises}
use Rattle.why.proofs.Answering.{answered}
use Rattle.why.proofs.why.Goals as goal

pub returns-in_err-board : goal.returns-in_err-board
returns-in_err-board c =
    let refusal = err_from_is_err_and c.from_residual.result c.from_residual.ensures.1 in
    rw (refusal.1, refusal.2)
    (let explained = circuit_stops _ c.in_err-board.ensures.number (numbered _) in (explained, promises _ _ _ explained))

pub returns-in_err-given_refusal : goal.returns-in_err-given_refusal
returns-in_err-given_refusal c =
    let refusal = err_from_is_err_and c.from_residual-in_err-given_refusal.result c.from_residual-in_err-given_refusal.ensures.1 in
    let given = rw c.in_ok-board.ensures.same.0 at c.in_err-given_refusal.ensures in
    rw (refusal.1, refusal.2)
    (let explained = given_stops _ c.in_ok-board.ensures.number given (numbered _) in (explained, promises _ _ _ explained))

pub answer-requires : goal.answer-requires
answer-requires c = given_facts _ _ _ c.in_ok-given_refusal.ensures

pub returns : goal.returns
returns c =
    let same = c.in_ok-board.ensures.same in
    let explained = answered _ c.in_ok-board.ensures.number
    (rw same.0 at c.in_ok-given_refusal.ensures) (rw (same.0, same.1) at c.answer.ensures) in
    (explained, promises _ _ _ explained)

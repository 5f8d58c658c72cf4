-- `tick::tick` meets its contract: it answers the first refusal and leaves everything, or does the work. Assumes nothing.
use Rattle.circuit.proofs.Answering.{numbered}
use Rattle.tick.proofs.Ticking.{circuit_refuses, records_refuse, results_decide, given_records, results_fit, tick_refused, tick_done}
use Rattle.tick.proofs.tick.Goals as goal

pub returns-in_err-board : goal.returns-in_err-board
returns-in_err-board c = tick_refused _ _ _ c.from_residual.ensures.1 (circuit_refuses _ _ _ _ _ _ _ c.in_err-board.ensures.number (numbered _))

pub returns-in_err-record_refusal : goal.returns-in_err-record_refusal
returns-in_err-record_refusal c =
    tick_refused _ _ _ c.from_residual-in_err-record_refusal.ensures.1 (records_refuse _ _ _ _ _ _ c.in_ok-board.ensures.number _ c.in_err-record_refusal.ensures (numbered _))

pub returns-in_err-result_refusal : goal.returns-in_err-result_refusal
returns-in_err-result_refusal c =
    tick_refused _ _ _ c.from_residual-in_err-result_refusal.ensures.1 (results_decide _ _ _ _ _ _ c.in_ok-board.ensures.number c.in_ok-record_refusal.ensures c.in_err-result_refusal.ensures)

pub tick_into-requires : goal.tick_into-requires
tick_into-requires c =
    let given = given_records _ _ _ c.in_ok-record_refusal.ensures in
    let fit = results_fit _ _ _ c.in_ok-result_refusal.ensures in
    rw c.in_ok-board.ensures.same.0 (given.0, given.1, fit.0, fit.1)

pub returns : goal.returns
returns c =
    let done = rw (c.in_ok-board.ensures.same.0, c.in_ok-board.ensures.same.1) at c.tick_into.ensures in
    tick_done _ (results_decide _ _ _ _ _ _ c.in_ok-board.ensures.number c.in_ok-record_refusal.ensures c.in_ok-result_refusal.ensures) done.0 done.1

-- `beginner_board::chain_refusal` meets its contract: its tests are made in the order of the list. Assumes nothing.
use native.Mathlib.Omega.{arith}
use Rattle.circuit.proofs.Answering.{handed_back, numbered}
use Rattle.beginner_board.proofs.Refusing.{board_refuses, large_refuses, feed_refuses, cubes_short, cubes_over, run_passes}
use Rattle.beginner_board.proofs.chain_refusal.Goals as goal

pub returns-in_err-board-clause-number : goal.returns-in_err-board-clause-number
returns-in_err-board-clause-number c = handed_back _ _ c.from_residual.ensures.1 (board_refuses _ _ _ _ c.in_err-board.ensures.number (numbered _))

pub returns-in_err-small_refusal-clause-number : goal.returns-in_err-small_refusal-clause-number
returns-in_err-small_refusal-clause-number c =
    handed_back _ _ c.from_residual-in_err-small_refusal.ensures.1 (large_refuses _ _ _ c.in_ok-board.ensures.number _ c.in_err-small_refusal.ensures (numbered _))

pub returns-in_err-feed_refusal-clause-number : goal.returns-in_err-feed_refusal-clause-number
returns-in_err-feed_refusal-clause-number c =
    handed_back _ _ c.from_residual-in_err-feed_refusal.ensures.1
    (feed_refuses _ _ _ c.in_ok-board.ensures.number c.in_ok-small_refusal.ensures _ c.in_err-feed_refusal.ensures (numbered _))

pub returns-then-cubes-lt-LEAST_CUBE_BYTES-clause-number : goal.returns-then-cubes-lt-LEAST_CUBE_BYTES-clause-number
returns-then-cubes-lt-LEAST_CUBE_BYTES-clause-number c =
    cubes_short _ _ _ c.in_ok-board.ensures.number c.in_ok-small_refusal.ensures c.in_ok-feed_refusal.ensures (omega arith)

pub returns-then-cubes-gt-MOST_CUBE_BYTES-clause-number : goal.returns-then-cubes-gt-MOST_CUBE_BYTES-clause-number
returns-then-cubes-gt-MOST_CUBE_BYTES-clause-number c =
    cubes_over _ _ _ c.in_ok-board.ensures.number c.in_ok-small_refusal.ensures c.in_ok-feed_refusal.ensures (omega arith) (omega arith)

pub returns-clause-number : goal.returns-clause-number
returns-clause-number c = run_passes _ _ _ c.in_ok-board.ensures.number c.in_ok-small_refusal.ensures c.in_ok-feed_refusal.ensures (omega arith) (omega arith)

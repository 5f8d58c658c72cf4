-- `chained::chain_refusal` meets its contract: its tests are made in the order of the list. Assumes nothing.
use native.Mathlib.Omega.{arith}
use Rattle.circuit.proofs.Answering.{handed_back, numbered}
use Rattle.chained.proofs.Refusing.{board_refuses, interval_over, cubes_short, cubes_over, chain_passes}
use Rattle.chained.proofs.chain_refusal.Goals as goal

pub returns-in_err-board-clause-number : goal.returns-in_err-board-clause-number
returns-in_err-board-clause-number c =
    handed_back _ _ c.from_residual.ensures.1 (board_refuses _ _ _ _ _ c.in_err-board.ensures.number (numbered _))

pub returns-then-w-gt-MOST_INTERVAL-clause-number : goal.returns-then-w-gt-MOST_INTERVAL-clause-number
returns-then-w-gt-MOST_INTERVAL-clause-number c = interval_over _ _ _ _ c.in_ok-board.ensures.number (omega arith)

pub returns-then-cubes-cube_bytes-clause-number : goal.returns-then-cubes-cube_bytes-clause-number
returns-then-cubes-cube_bytes-clause-number c = cubes_short _ _ _ _ c.in_ok-board.ensures.number (omega arith) (omega arith)

pub returns-then-cubes-gt-MOST_CUBE_BYTES-clause-number : goal.returns-then-cubes-gt-MOST_CUBE_BYTES-clause-number
returns-then-cubes-gt-MOST_CUBE_BYTES-clause-number c = cubes_over _ _ _ _ c.in_ok-board.ensures.number (omega arith) (omega arith) (omega arith)

pub returns-clause-number : goal.returns-clause-number
returns-clause-number c = chain_passes _ _ _ _ c.in_ok-board.ensures.number (omega arith) (omega arith) (omega arith)

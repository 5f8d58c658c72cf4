-- `beginner_board::read_beginners` meets its contract: 1 to 9, then 10, and then the board is judged. Assumes nothing.
use native.Mathlib.Omega.{arith}
use Rattle.reader.proofs.Bodies.{returned}
use Rattle.beginners.proofs.Reading.{also_read}
use Rattle.beginner_board.proofs.Reading.{judged_refused, table_refused}
use Rattle.beginner_board.proofs.read_beginners.Goals as goal

pub returns-in_err-body : goal.returns-in_err-body
returns-in_err-body c =
    let read = judged_refused _ _ c.opening_of-opening.ensures.1 _ c.in_err-body.ensures in
    rw (returned _ _ c.from_residual.ensures.1) (read, also_read read)

pub returns-then-table-table_length : goal.returns-then-table-table_length
returns-then-table-table_length c = let read = table_refused _ _ c.opening_of-opening.ensures.1 c.in_ok-body.ensures (omega arith) in (read, also_read read)

pub returns : goal.returns
returns c = (c.read_body.ensures, also_read c.read_body.ensures)

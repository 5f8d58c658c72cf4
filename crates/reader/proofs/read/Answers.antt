-- `reader::read` meets its contract: the text is judged as a whole before a word is stored. Assumes nothing.
use Rattle.reader.proofs.Answering.{read_so, read_whole, answers_refused, answers_short, fillable, answers_filled}
use Rattle.reader.proofs.Bodies.{returned}
use native.Mathlib.Omega.{arith}
use Rattle.text.specs.Text.{circuit_lines}
use Rattle.reader.proofs.read.Goals as goal

pub returns-in_err-body : goal.returns-in_err-body
returns-in_err-body c = rw (returned _ _ c.from_residual.ensures.1) (answers_refused _ _ (circuit_lines _) _ _ (read_so _ c.opening_of-opening.ensures.1) _ c.in_err-body.ensures)

pub returns-then-table-table_length : goal.returns-then-table-table_length
returns-then-table-table_length c = answers_short _ _ (circuit_lines _) _ _ (read_so _ c.opening_of-opening.ensures.1) c.in_ok-body.ensures (omega arith)

pub fill-requires : goal.fill-requires
fill-requires c = (
  c.in_ok-body.ensures.bounded,
  fillable _ _ (circuit_lines _) _ _ (read_so _ c.opening_of-opening.ensures.1) c.in_ok-body.ensures (omega arith) (read_whole _),
)

pub returns : goal.returns
returns c = answers_filled _ _ (circuit_lines _) _ _ (read_so _ c.opening_of-opening.ensures.1) c.in_ok-body.ensures (omega arith) c.fill.ensures

-- `binary_reader::read_binary` meets its contract: the text is judged as a whole before a word is stored. Assumes nothing.
use mathlib.Core.Path.{refl}
use native.Mathlib.Omega.{arith}
use Rattle.binary.specs.Binary.{circuit_rows, read_binary}
use Rattle.reader.proofs.Answering.{answers_refused, answers_short, fillable, answers_filled}
use Rattle.reader.proofs.Bodies.{returned}
use Rattle.binary_reader.proofs.Filling.{rows_whole}
use Rattle.binary_reader.proofs.read_binary.Goals as goal

pub returns-in_err-body : goal.returns-in_err-body
unfolding read_binary
returns-in_err-body c = rw (returned _ _ c.from_residual.ensures.1) (answers_refused _ _ circuit_rows _ _ refl _ c.in_err-body.ensures)

pub returns-then-table-table_length : goal.returns-then-table-table_length
unfolding read_binary
returns-then-table-table_length c = answers_short _ _ circuit_rows _ _ refl c.in_ok-body.ensures (omega arith)

pub fill-requires : goal.fill-requires
unfolding read_binary
fill-requires c = (c.in_ok-body.ensures.bounded, fillable _ _ circuit_rows _ _ refl c.in_ok-body.ensures (omega arith) (rows_whole _))

pub returns : goal.returns
unfolding read_binary
returns c = answers_filled _ _ circuit_rows _ _ refl c.in_ok-body.ensures (omega arith) c.fill.ensures

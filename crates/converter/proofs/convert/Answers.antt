-- `converter::convert` meets its contract: what the reader refuses, and the text of what it read. Assumes nothing.
use native.Mathlib.Omega.{arith}
use Rattle.circuit.proofs.Answering.{numbered}
use Rattle.reporting.proofs.Reading.{put_front}
use Rattle.reporting.proofs.Running.{answers_ok}
use Rattle.converter.proofs.Converting.{convert_refused, convert_read, never_refused, converted_written}
use Rattle.converter.proofs.convert.Goals as goal

pub returns-in-Err : goal.returns-in-Err
returns-in-Err c =
    let is = put_front (convert_refused _ _ (omega arith) c.in-Err.ensures (numbered c.in-Err.refusal)) (rw c.number.ensures at c.put_refusal.ensures) in
    record { returns = is.0; fills = is.1; fits = is.2 }

pub unwrap-requires : goal.unwrap-requires
unwrap-requires c = answers_ok _ (never_refused _ (convert_read _ _ (omega arith) c.in-Ok.ensures (omega arith)) (omega arith) c.write.ensures)

pub returns-in-Ok : goal.returns-in-Ok
returns-in-Ok c =
    converted_written (convert_read _ _ (omega arith) c.in-Ok.ensures (omega arith)) (omega arith) (rw c.unwrap.ensures at c.write.ensures)

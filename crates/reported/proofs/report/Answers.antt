-- `reported::report` meets its contract: what the reader refuses, and the report on what it read. Assumes nothing.
use native.Mathlib.Omega.{arith}
use Rattle.circuit.proofs.Answering.{numbered}
use Rattle.reporting.specs.Reporting.{of_text}
use Rattle.reporting.proofs.Reading.{read_refused, read_accepted, accepted_table, run_read}
use Rattle.reported.specs.Report.{run_report, report_of}
use Rattle.reported.proofs.Reporting.{put_report}
use Rattle.reported.proofs.report.Goals as goal

pub returns-in-Err : goal.returns-in-Err
unfolding report_of
returns-in-Err c =
    put_report _ (read_refused _ _ (omega arith) c.in-Err.ensures run_report (numbered c.in-Err.refusal)) (rw c.number.ensures at c.put_refusal.ensures)

pub report_run-requires : goal.report_run-requires
report_run-requires c = accepted_table (read_accepted _ _ (omega arith) c.in-Ok.ensures (omega arith))

pub returns-in-Ok : goal.returns-in-Ok
unfolding report_of of_text
returns-in-Ok c =
    let put = c.report_run.ensures in
    put_report _ (run_read (read_accepted _ _ (omega arith) c.in-Ok.ensures (omega arith)) run_report) put

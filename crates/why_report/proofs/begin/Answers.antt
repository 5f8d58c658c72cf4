-- `why_report::begin` meets its contract: what the reader refuses, and the first piece for what it read. Assumes nothing.
use native.Mathlib.Omega.{arith}
use Rattle.circuit.proofs.Answering.{numbered}
use Rattle.reporting.specs.Reporting.{of_text}
use Rattle.reporting.proofs.Reading.{read_refused, read_accepted, accepted_table, run_read}
use Rattle.why_report.specs.WhyReport.{run_explained, why_report_of}
use Rattle.why_report.proofs.Pieces.{only_piece, begins_as}
use Rattle.why_report.proofs.begin.Goals as goal

pub returns-in-Err : goal.returns-in-Err
unfolding why_report_of
returns-in-Err c =
    let said = rw c.number.ensures at c.begin_refused.ensures in
    only_piece _ _ _ _ (read_refused _ _ (omega (arith, c.requires.0)) c.in-Err.ensures (run_explained c.args.lamp) (numbered c.in-Err.refusal)) said.0 said.1

pub begin_run-requires : goal.begin_run-requires
begin_run-requires c = (accepted_table (read_accepted _ _ (omega (arith, c.requires.0)) c.in-Ok.ensures (omega arith)), c.requires.1)

pub returns-in-Ok : goal.returns-in-Ok
unfolding why_report_of of_text
returns-in-Ok c =
    begins_as _ _ _ _ (run_read (read_accepted _ _ (omega (arith, c.requires.0)) c.in-Ok.ensures (omega arith)) (run_explained c.args.lamp)) c.begin_run.ensures

-- `reported::report_run` meets its contract: what the chain refuses, and what has stopped and is judged. Assumes nothing.
use mathlib.Core.Path.{refl}
use Prim.Native.Nat.{ℕ}
use lib.ListN.{length-replicate}
use Rattle.reporting.proofs.Reading.{put_is}
use Rattle.reporting.proofs.Running.{chain_refused, chain_numbered, answers_ok}
use Rattle.reported.specs.Report.{run_report}
use Rattle.reported.proofs.Reporting.{run_stopped, never_refused}
use Rattle.reported.proofs.report_run.Goals as goal

pub returns-in-Err : goal.returns-in-Err
unfolding run_report
returns-in-Err c =
    put_is (chain_refused _ _ c.requires _ (length-replicate {A = ℕ} 65536 0) c.in-Err.ensures.0 run_report refl (chain_numbered _)) (rw c.chain_number.ensures at c.put_refusal.ensures)

pub unwrap-s-requires : goal.unwrap-s-requires
unwrap-s-requires c = answers_ok _ (never_refused _ _ c.requires _ (length-replicate {A = ℕ} 65536 0) c.in-Ok.ensures.0 refl _ _ refl refl c.judge.ensures.0)

pub returns : goal.returns
returns c =
    put_is (run_stopped _ _ c.requires _ (length-replicate {A = ℕ} 65536 0) c.in-Ok.ensures.0 refl _ _ refl refl (rw c.unwrap-s.ensures at c.judge.ensures.0)) c.put_stopped.ensures

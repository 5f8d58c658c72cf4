-- The report on a text that is read: 16 without a lamp or bad state, and with one that of its run's outcome. Assumes nothing.
use mathlib.Core.Path.{◌≡◌, sym, ap, ◌∙◌}
use mathlib.Core.List.{List}
use Prim.Native.Nat.{ℕ, ◌/◌, ◌≤◌}
use native.Mathlib.Omega.{arith}
use Rattle.circuit.specs.Circuit.{Circuit}
use Rattle.circuit.specs.Refusal.{refusal}
use Rattle.circuit.specs.Table.{verdicts, circuit_of, lamp_tests}
use Rattle.circuit.proofs.Refusals.{refused_old, accepted_new}
use Rattle.circuit.proofs.Legality.{no_lamp, some_lamp}
use Rattle.text.specs.Outcome.{accepted}
use Rattle.text.specs.Text.{Content, read_text}
use Rattle.cubes.specs.Buffer.{cube_bytes}
use Rattle.cubes.specs.Run.{run}
use Rattle.reporting.specs.Reporting.{refusing, of_run, of_text}
use Rattle.reporting.specs.ReportingInCode.{of_outcome}
use Rattle.reported.specs.Report.{run_report, report_of}

module _ (text : List ℕ) (t : Content) (read : read_text text ≡ accepted t) where
  pub without_lamp : verdicts t.counts ≡ 0 → report_of text ≡ refusing 16
  unfolding report_of of_text of_run
  without_lamp none =
      let is = no_lamp t.counts none in
      ap (of_outcome run_report) read ∙ sym (refused_old (refusal (lamp_tests t.counts)) _ _ (λ z. omega arith)) ∙ ap refusing (sym is)

  pub with_lamp : 1 ≤ verdicts t.counts → let c : Circuit = circuit_of t.counts t.words in report_of text ≡ run_report c (run c 16 (65536 / cube_bytes t.counts.latches))
  unfolding report_of of_text of_run
  with_lamp some = ap (of_outcome run_report) read ∙ sym (accepted_new (refusal (lamp_tests t.counts)) _ _ (sym (some_lamp t.counts some)))

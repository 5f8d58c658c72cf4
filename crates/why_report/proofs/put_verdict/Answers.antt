-- `why_report::put_verdict` meets its contract: the judge refuses nothing here, and its verdict decides. Assumes nothing.
use mathlib.Core.Path.{refl}
use native.Mathlib.Omega.{arith}
use Rattle.circuit.proofs.Legality.{legal}
use Rattle.reporting.proofs.Running.{answers_ok}
use Rattle.why_report.proofs.Beginning.{never_refused, verdict_open, verdict_known}
use Rattle.why_report.proofs.put_verdict.Goals as goal

pub unwrap-requires : goal.unwrap-requires
unwrap-requires c = answers_ok _ (never_refused _ _ _ _ _ c.requires.0 _ c.requires.1 _ _ refl refl c.judge.ensures.0)

pub field-field-requires : goal.field-field-requires
field-field-requires c = let pre = c.requires in omega (arith, (legal _ _ pre.0.are.accepts).bounded, pre.1)

pub returns-then-field-eq0 : goal.returns-then-field-eq0
returns-then-field-eq0 c =
    let put = c.put_row-bytes.ensures in
    verdict_open _ _ _ _ _ c.requires.0 _ c.requires.1 _ _ refl refl c.judge.ensures.0 c.field-field.ensures (put.0, omega arith) c.if-field-eq0.true

pub returns : goal.returns
returns c =
    let put = c.put_row-bytes.ensures in
    verdict_known _ _ _ _ _ c.requires.0 _ c.requires.1 _ _ refl refl c.judge.ensures.0 c.field-field.ensures (put.0, omega arith) c.if-field-eq0.false

-- `why_report::begin_run` meets its contract: what the chain refuses, no such lamp, and the verdict in the cubes that it left. Assumes nothing.
use mathlib.Core.Path.{refl}
use native.Mathlib.Omega.{arith}
use Rattle.reporting.proofs.Running.{chain_numbered, chain_refused}
use Rattle.why_report.specs.WhyReport.{run_explained}
use Rattle.why_report.proofs.Pieces.{only_piece, begins_as}
use Rattle.why_report.proofs.Beginning.{judgeable, no_such_lamp, lamp_explained}
use Rattle.why_report.proofs.begin_run.Goals as goal

pub returns-in-Err : goal.returns-in-Err
unfolding run_explained
returns-in-Err c =
    let said = rw c.chain_number.ensures at c.begin_refused-in-Err.ensures in
    only_piece _ _ _ _ (chain_refused _ _ c.requires.0 _ c.requires.1 c.in-Err.ensures.0 (run_explained c.args.lamp) refl (chain_numbered c.in-Err.refusal)) said.0 said.1

pub returns-then-lamp-counts : goal.returns-then-lamp-counts
returns-then-lamp-counts c =
    let said = rw c.number.ensures at c.begin_refused.ensures in
    only_piece _ _ _ _ (no_such_lamp _ _ c.requires.0 _ c.requires.1 c.in-Ok.ensures.0 refl _ c.if-lamp-counts.true) said.0 said.1

pub put_verdict-requires : goal.put_verdict-requires
put_verdict-requires c = (judgeable _ _ c.requires.0 _ c.requires.1 c.in-Ok.ensures.0 refl, omega (arith, c.if-lamp-counts.false))

pub returns-else-lamp-counts : goal.returns-else-lamp-counts
returns-else-lamp-counts c =
    begins_as _ _ _ _ (lamp_explained _ _ c.requires.0 _ c.requires.1 c.in-Ok.ensures.0 refl _ (omega (arith, c.if-lamp-counts.false))) c.put_verdict.ensures

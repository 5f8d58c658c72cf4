-- `table::ceiling_refusal` meets its contract: a count over its ceiling fails, and otherwise all are within. Assumes nothing.
use native.Mathlib.Omega.{arith}
use Rattle.circuit.proofs.Legality.{over_ceiling, within_ceilings}
use Rattle.table.proofs.ceiling_refusal.Goals as goal

pub returns-then-counts-gt-MOST_INPUTS : goal.returns-then-counts-gt-MOST_INPUTS
returns-then-counts-gt-MOST_INPUTS c = over_ceiling _ (λ b. omega arith)

pub returns-then-counts-gt-MOST_LATCHES : goal.returns-then-counts-gt-MOST_LATCHES
returns-then-counts-gt-MOST_LATCHES c = over_ceiling _ (λ b. omega arith)

pub returns-then-counts-gt-MOST_LAMPS : goal.returns-then-counts-gt-MOST_LAMPS
returns-then-counts-gt-MOST_LAMPS c = over_ceiling _ (λ b. omega arith)

pub returns-then-counts-gt-MOST_GATES : goal.returns-then-counts-gt-MOST_GATES
returns-then-counts-gt-MOST_GATES c = over_ceiling _ (λ b. omega arith)

pub returns-then-counts-gt-MOST_BADS : goal.returns-then-counts-gt-MOST_BADS
returns-then-counts-gt-MOST_BADS c = over_ceiling _ (λ b. omega arith)

pub returns-then-counts-gt-MOST_CONSTRAINTS : goal.returns-then-counts-gt-MOST_CONSTRAINTS
returns-then-counts-gt-MOST_CONSTRAINTS c = over_ceiling _ (λ b. omega arith)

pub returns : goal.returns
returns c = within_ceilings _ (omega arith)

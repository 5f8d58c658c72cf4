-- `beginner_board::small_refusal` meets its contract: a count over its ceiling fails, and otherwise all are within. Assumes nothing.
use native.Mathlib.Omega.{arith}
use Rattle.beginners.proofs.Rules.{too_large, small_passes}
use Rattle.beginner_board.proofs.small_refusal.Goals as goal

pub returns-then-counts-gt-MOST_INPUTS : goal.returns-then-counts-gt-MOST_INPUTS
returns-then-counts-gt-MOST_INPUTS c = too_large _ (λ b. omega arith)

pub returns-then-counts-gt-MOST_LATCHES : goal.returns-then-counts-gt-MOST_LATCHES
returns-then-counts-gt-MOST_LATCHES c = too_large _ (λ b. omega arith)

pub returns-then-counts-gt-MOST_LAMPS : goal.returns-then-counts-gt-MOST_LAMPS
returns-then-counts-gt-MOST_LAMPS c = too_large _ (λ b. omega arith)

pub returns-then-counts-gt-MOST_GATES : goal.returns-then-counts-gt-MOST_GATES
returns-then-counts-gt-MOST_GATES c = too_large _ (λ b. omega arith)

pub returns-then-counts-ne0 : goal.returns-then-counts-ne0
returns-then-counts-ne0 c = too_large _ (λ b. omega arith)

pub returns-then-counts-ne0-2 : goal.returns-then-counts-ne0-2
returns-then-counts-ne0-2 c = too_large _ (λ b. omega arith)

pub returns : goal.returns
returns c = small_passes _ (omega arith)

-- `anyorder::header_refusal` meets its contract: its tests are made in the order of the document. Assumes nothing.
use native.Mathlib.Omega.{arith}
use Rattle.circuit.proofs.Answering.{went_on, turned_whole}
use Rattle.reader.proofs.FirstLine.{counts_bounded}
use Rattle.drawn.specs.Lines.{any_header_tests}
use Rattle.anyorder.proofs.Answering.{header_many, header_few, header_passes}
use Rattle.anyorder.proofs.header_refusal.Goals as goal

pub returns-in_err-count_refusal : goal.returns-in_err-count_refusal
unfolding any_header_tests
returns-in_err-count_refusal c = turned_whole _ _ _ _ c.from_residual.ensures.1 c.in_err-count_refusal.ensures

pub returns-then-most-gt-MOST_VARIABLES : goal.returns-then-most-gt-MOST_VARIABLES
returns-then-most-gt-MOST_VARIABLES c =
    header_many _ (went_on _ c.in_ok-count_refusal.was c.count_refusal.ensures) c.counts_of-counts.ensures c.entry-most.ensures c.if-most-gt-MOST_VARIABLES.true

pub variables-requires : goal.variables-requires
variables-requires c = counts_bounded _ (went_on _ c.in_ok-count_refusal.was c.count_refusal.ensures) c.counts_of-counts.ensures

pub returns-then-variables-most : goal.returns-then-variables-most
returns-then-variables-most c =
    header_few _ (went_on _ c.in_ok-count_refusal.was c.count_refusal.ensures) c.counts_of-counts.ensures c.entry-most.ensures (omega arith) (omega arith)

pub returns : goal.returns
returns c =
    header_passes _ (went_on _ c.in_ok-count_refusal.was c.count_refusal.ensures) c.counts_of-counts.ensures c.entry-most.ensures (omega arith) (omega arith)

-- `reader::header_refusal` meets its contract: the tests of the count, and then M. Assumes nothing.
use mathlib.Core.Path.{◌∙◌}
use Rattle.text.specs.Text.{header_tests}
use Rattle.circuit.proofs.Answering.{turned_whole}
use Rattle.reader.proofs.FirstLine.{counts_bounded, header_sum, header_passes}
use Rattle.reader.proofs.header_refusal.Goals as goal

pub returns-in_err-count_refusal : goal.returns-in_err-count_refusal
unfolding header_tests
returns-in_err-count_refusal c = turned_whole _ _ _ _ c.from_residual.ensures.1 c.in_err-count_refusal.ensures

pub variables-requires : goal.variables-requires
variables-requires c = counts_bounded _ c.in_ok-count_refusal.ensures c.counts_of-counts.ensures

pub returns-then-entry-variables : goal.returns-then-entry-variables
returns-then-entry-variables c = header_sum _ c.in_ok-count_refusal.ensures c.counts_of-counts.ensures c.entry.ensures (rw c.variables.ensures at c.if-entry-variables.true)

pub returns : goal.returns
returns c = header_passes _ c.in_ok-count_refusal.ensures c.counts_of-counts.ensures c.entry.ensures (c.if-entry-variables.false ∙ c.variables.ensures)

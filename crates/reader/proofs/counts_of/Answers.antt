-- `reader::counts_of` meets its contract: they are the numbers behind M. Assumes nothing.
use Rattle.text.specs.Text.{counts_of}
use Rattle.reader.proofs.counts_of.Goals as goal

pub returns : goal.returns
unfolding counts_of
returns c = cc

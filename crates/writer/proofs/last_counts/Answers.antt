-- `writer::last_counts` meets its contract: what is 0 is left off at the end. Assumes nothing.
use Rattle.writer.proofs.FirstLine.{last_three, last_two, last_one}
use Rattle.writer.proofs.last_counts.Goals as goal

pub returns-then-counts-ne0 : goal.returns-then-counts-ne0
returns-then-counts-ne0 c = last_three _ c.requires c.if-counts-ne0.true

pub returns-then-counts-ne0-2 : goal.returns-then-counts-ne0-2
returns-then-counts-ne0-2 c = last_two _ c.requires c.if-counts-ne0.false c.if-counts-ne0-2.true

pub returns : goal.returns
returns c = last_one _ c.requires c.if-counts-ne0.false c.if-counts-ne0-2.false

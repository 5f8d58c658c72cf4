-- `reports::size_at` meets its contract: the number of a line that has one and nothing else. Assumes nothing.
use Rattle.reports.proofs.Sizes.{size_none, size_some}
use Rattle.reports.proofs.size_at.Goals as goal

pub returns-then-found-eq0 : goal.returns-then-found-eq0
returns-then-found-eq0 c = size_none _ _ _ c.line-found.ensures c.if-found-eq0.true

pub returns : goal.returns
returns c = size_some _ _ _ c.line-found.ensures c.if-found-eq0.false c.entry.ensures

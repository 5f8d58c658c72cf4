-- `reasons::has_begun` meets its contract: a latch that is known begins. Assumes nothing.
use Rattle.reasons.proofs.Lines.{begun_by}
use Rattle.reasons.proofs.has_begun.Goals as goal

pub returns-else-begun : goal.returns-else-begun
returns-else-begun c = begun_by _ c.if-begun.false _

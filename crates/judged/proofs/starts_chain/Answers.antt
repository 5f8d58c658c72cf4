-- `judged::starts_chain` meets its contract: cube 0 is compared first, and the constraints decide where it is not the resets. Assumes nothing.
use mathlib.Core.Path.{◌∙◌}
use Rattle.judged.proofs.Finding.{same_start, other_start}
use Rattle.judged.proofs.starts_chain.Goals as goal

pub returns-then-starts : goal.returns-then-starts
returns-then-starts c = c.if-starts.true ∙ same_start _ _ _ 0 _ c.starts.ensures c.if-starts.true

pub returns-else-starts : goal.returns-else-starts
returns-else-starts c = other_start _ _ _ 0 _ c.starts.ensures c.if-starts.false c.start_blocked.ensures

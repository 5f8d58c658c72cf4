-- `reasons::put_forced` meets its contract: nothing, or the latch with its value. Assumes nothing.
use Rattle.text.specs.Bench.{bytes}
use Rattle.reasons.proofs.Lines.{forced_none, forced_some}
use Rattle.reasons.proofs.put_forced.Goals as goal

pub returns-then-field-eq0 : goal.returns-then-field-eq0
returns-then-field-eq0 c = forced_none _ _ _ c.if-field-eq0.true

pub returns : goal.returns
unfolding bytes
returns c = forced_some _ _ _ c.if-field-eq0.false c.put_link-name.ensures c.put_item-word.ensures c.put_said.ensures

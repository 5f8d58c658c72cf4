-- `reasons::put_named` meets its contract: one number, or two. Assumes nothing.
use Rattle.text.specs.Bench.{bytes}
use Rattle.reasons.proofs.Lines.{named_one, named_several}
use Rattle.reasons.proofs.put_named.Goals as goal

pub returns-then-from-last : goal.returns-then-from-last
unfolding bytes
returns-then-from-last c = named_one _ _ c.if-from-last.true c.put_item.ensures

pub returns : goal.returns
unfolding bytes
returns c = named_several _ _ c.if-from-last.false c.put_item-to.ensures c.put_item-2.ensures

-- `reasons::put_link` meets its contract. Assumes nothing.
use Rattle.text.specs.Bench.{bytes}
use Rattle.reasons.proofs.Lines.{link_next, link_first}
use Rattle.reasons.proofs.put_link.Goals as goal

pub returns-then-begun : goal.returns-then-begun
unfolding bytes
returns-then-begun c = link_next _ c.if-begun.true c.put_bytes.ensures

pub returns : goal.returns
unfolding bytes
returns c = link_first _ c.if-begun.false c.put_bytes-2.ensures

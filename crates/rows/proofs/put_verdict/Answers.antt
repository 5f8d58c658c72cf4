-- `rows::put_verdict` meets its contract: the name with its number, and the verdict's word. Assumes nothing.
use Rattle.text.specs.Bench.{bytes}
use Rattle.rows.proofs.Rows.{verdict_put}
use Rattle.rows.proofs.put_verdict.Goals as goal

pub returns : goal.returns
unfolding bytes
returns c =
    verdict_put _ _ _ c.put_item-word.ensures c.put_said.ensures

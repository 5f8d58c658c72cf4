-- `three::and3` meets its contract: the table's rows are the rule's answers, which antt computes and compares. Assumes nothing.
use Rattle.three.specs.Lists.{tabulate}
use Rattle.three.specs.Value.{code, decode, both}
use Rattle.three.proofs.Table.{entry_of_row}
use Rattle.three.proofs.and3.Goals as goal

pub returns : goal.returns
unfolding tabulate code decode both
returns c = let pre = c.requires in entry_of_row 0 (λ a b. code (both (decode a) (decode b))) 3 3 _ _ pre.0 pre.1

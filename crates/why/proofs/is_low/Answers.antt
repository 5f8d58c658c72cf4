-- `why::is_low` meets its contract: a variable's code is compared with that of 0, read as the literal reads it. Assumes nothing.
use Rattle.circuit.proofs.LiteralValue.{low_code}
use Rattle.why.proofs.is_low.Goals as goal

pub returns : goal.returns
returns c = low_code _ _ _ c.get-v.ensures

-- `pass::Values::fresh` meets its contract: zeros are X, and the constant is put. Assumes nothing.
use Rattle.pass.proofs.WorkingTable.{fresh_working, fresh_holds}
use Rattle.pass.proofs.Values.fresh.Goals as goal

pub invariant_of-values : goal.invariant_of-values
invariant_of-values c = record { working = fresh_working }

pub returns : goal.returns
returns c = fresh_holds _ c.put.ensures

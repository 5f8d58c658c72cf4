-- `rows::put_said` meets its contract: one of three texts is put. Assumes nothing.
use native.Mathlib.Omega.{arith}
use Rattle.rows.proofs.Putting.{said_either, said_off, said_on}
use Rattle.rows.proofs.put_said.Goals as goal

pub returns-in-0 : goal.returns-in-0
returns-in-0 c = said_either _ _ _ _ c.in-0.is c.put_bytes.ensures

pub returns-in-1 : goal.returns-in-1
returns-in-1 c = said_off _ _ _ _ c.in-1.is c.put_bytes-in-1.ensures

pub returns-in_default : goal.returns-in_default
returns-in_default c = said_on _ _ _ _ (omega arith) (omega arith) c.put_bytes-in_default.ensures

-- `pass::literal` meets its contract: its variable's value is looked up in the table of signs, which antt computes and compares. Assumes nothing.
use Rattle.three.specs.Lists.{tabulate}
use Rattle.three.specs.Value.{code, decode, inverse, ternary}
use Rattle.three.proofs.Filling.{is_small}
use Rattle.circuit.specs.Circuit.{signed}
use Rattle.pass.specs.ValuesInCode.{values_of, sign_table}
use Rattle.pass.proofs.WorkingTable.{value_signed}
use Rattle.pass.proofs.literal.Goals as goal

pub bounds-v : goal.bounds-v
bounds-v c = is_small _ c.get-v.ensures

pub returns : goal.returns
unfolding sign_table tabulate code decode inverse signed ternary
returns c = rw c.get-v.ensures (value_signed (values_of c.args.values.now.bytes) c.args.x)

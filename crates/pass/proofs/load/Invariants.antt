-- `pass::load` meets its contract: the fields are stored in turn. Assumes nothing.
use Rattle.three.specs.Record.{unpack}
use Rattle.three.proofs.Loops.{Stored}
use Rattle.pass.specs.ValuesInCode.{values_of}
use Rattle.pass.proofs.load.Given as goal

abbrev pub invariant-loop-i : goal.invariant-loop-i
invariant-loop-i l = Stored (values_of l.initial.values.bytes) l.first (unpack l.count l.bytes) l.count (values_of l.values.bytes) l.i

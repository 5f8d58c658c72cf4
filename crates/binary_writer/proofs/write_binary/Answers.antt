-- `binary_writer::write_binary` meets its contract: the form is the binary one, which never exceeds what may be counted. Assumes nothing.
use native.Mathlib.Omega.{arith}
use Rattle.binary.proofs.Bound.{binary_bound}
use Rattle.binary_writer.proofs.write_binary.Goals as goal

pub write_form-requires : goal.write_form-requires
write_form-requires c = λ h. omega (arith, binary_bound c.args.counts c.args.table.now h)

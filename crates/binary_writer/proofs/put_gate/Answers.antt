-- `binary_writer::put_gate` meets its contract: one difference, and behind it the other. Assumes nothing.
use Rattle.putting.proofs.Putting.{put_then}
use Rattle.binary_writer.proofs.put_gate.Goals as goal

pub returns : goal.returns
returns c = put_then c.put_difference-behind.ensures c.put_difference.ensures

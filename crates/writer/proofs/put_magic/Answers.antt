-- `writer::put_magic` meets its contract: its copy is `sets` of the four bytes. Assumes nothing.
use native.Mathlib.Omega.{arith}
use Rattle.writer.proofs.FirstLine.{magic_put}
use Rattle.writer.proofs.put_magic.Goals as goal

pub returns : goal.returns
returns c = rw c.copy_from_slice.ensures.after (magic_put _ _ (omega arith) (omega arith))

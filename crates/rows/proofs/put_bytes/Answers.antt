-- `rows::put_bytes` meets its contract: the bytes are copied. Assumes nothing.
use Rattle.rows.proofs.Putting.{copied_put}
use Rattle.rows.proofs.put_bytes.Goals as goal

pub returns : goal.returns
returns c = copied_put _ _ _ _ c.requires c.copy_from_slice.ensures.after

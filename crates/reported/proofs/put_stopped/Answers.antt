-- `reported::put_stopped` meets its contract: the first line, the lamps, the bad states and the latches, one behind the other. Assumes nothing.
use native.Mathlib.Omega.{arith}
use Rattle.reported.proofs.Reporting.{rows_put}
use Rattle.reported.proofs.put_stopped.Goals as goal

pub returns : goal.returns
returns c =
    (rows_put _ _ _ _ _ _ c.put_opening-lamps.ensures.0 c.put_rows-bads.ensures.0 c.put_rows-latches.ensures.0 c.put_rows.ensures.0, omega arith)

-- `reported::put_ending` meets its contract: the number with its name, and the word. Assumes nothing.
use native.Mathlib.Omega.{arith}
use Rattle.text.specs.Bench.{bytes}
use Rattle.putting.proofs.Putting.{put_then}
use Rattle.reported.specs.Report.{ending}
use Rattle.reported.proofs.put_ending.Goals as goal

pub returns : goal.returns
unfolding ending bytes
returns c =
    (put_then c.put_item-end.ensures.0 c.put_bytes.ensures, omega arith)

-- `reported::put_closing` meets its contract: three numbers with their names, one behind the other. Assumes nothing.
use native.Mathlib.Omega.{arith}
use Rattle.text.specs.Bench.{bytes}
use Rattle.putting.proofs.Putting.{put_then}
use Rattle.reported.specs.Report.{closing}
use Rattle.reported.proofs.put_closing.Goals as goal

pub returns : goal.returns
unfolding closing bytes
returns c =
    (put_then c.put_item-back.ensures.0 (put_then c.put_item-settled.ensures.0 (put_then c.put_item-end.ensures.0 c.put_bytes.ensures)), omega arith)

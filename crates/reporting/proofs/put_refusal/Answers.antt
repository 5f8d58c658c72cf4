-- `reporting::put_refusal` meets its contract: the number with its name, and the line's end. Assumes nothing.
use native.Mathlib.Omega.{arith}
use Rattle.text.specs.Bench.{bytes}
use Rattle.putting.proofs.Putting.{put_then}
use Rattle.reporting.specs.Reporting.{refusing}
use Rattle.reporting.proofs.put_refusal.Goals as goal

pub returns : goal.returns
unfolding refusing bytes
returns c =
    (put_then c.put_item-end.ensures.0 c.put_bytes.ensures, omega arith)

-- `reasons::put_line` meets its contract: the cubes, the latches and the end of the line. Assumes nothing.
use native.Mathlib.Omega.{arith}
use Rattle.text.specs.Bench.{bytes}
use Rattle.putting.proofs.Putting.{put_then}
use Rattle.reasons.specs.Reasons.{line}
use Rattle.reasons.proofs.put_line.Goals as goal

pub returns : goal.returns
unfolding line bytes
returns c =
    (put_then c.put_named-start.ensures.0 (put_then c.put_latches-end.ensures.0 c.put_bytes.ensures), omega arith)

-- `writer::put_first_line` meets its contract: the four bytes, M, and the counts behind it. Assumes nothing.
use mathlib.Core.Path.{ap}
use lib.ListN.{length}
use Rattle.text.specs.Decimal.{decimal}
use Rattle.putting.proofs.Putting.{put_then}
use Rattle.writer.proofs.FirstLine.{head_text, head_length}
use native.Mathlib.Omega.{arith}
use Rattle.writer.proofs.put_first_line.Goals as goal

pub put_word-inputs-requires : goal.put_word-inputs-requires
put_word-inputs-requires c =
    omega (arith, head_length c.args.counts, ap (λ n. length (decimal n)) c.variables.ensures)

pub put_counts-requires : goal.put_counts-requires
put_counts-requires c =
    (c.requires.0, omega (arith, head_length c.args.counts, ap (λ n. length (decimal n)) c.variables.ensures))

pub returns : goal.returns
returns c =
    rw (head_text c.args.counts c.args.magic.now) (put_then (put_then c.put_magic-variables.ensures (rw c.variables.ensures at c.put_word-inputs.ensures.0)) c.put_counts.ensures)

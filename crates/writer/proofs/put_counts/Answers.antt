-- `writer::put_counts` meets its contract: its numbers are put one behind the other. Assumes nothing.
use Rattle.putting.proofs.Putting.{put_then}
use Rattle.writer.proofs.FirstLine.{counts_text, counts_length}
use native.Mathlib.Omega.{arith}
use Rattle.writer.specs.WriterInCode.{LastCounts}
use Rattle.writer.proofs.put_counts.Goals as goal

pub put_word-latches-requires : goal.put_word-latches-requires
put_word-latches-requires c =
    omega (arith, counts_length c.args.counts)

pub put_word-lamps-requires : goal.put_word-lamps-requires
put_word-lamps-requires c =
    omega (arith, counts_length c.args.counts)

pub put_word-gates-requires : goal.put_word-gates-requires
put_word-gates-requires c =
    omega (arith, counts_length c.args.counts)

pub put_line-requires : goal.put_line-requires
put_line-requires c =
    let last : LastCounts c.args.counts c.last_counts-last.result = c.last_counts-last.ensures in
    (last.small, rw last.text (omega (arith, c.requires.1, counts_length c.args.counts, c.put_word-latches.ensures.1, c.put_word-lamps.ensures.1, c.put_word-gates.ensures.1)))

pub returns : goal.returns
returns c =
    let front = put_then c.put_word-latches.ensures.0 c.put_word-lamps.ensures.0 in
    rw (counts_text c.args.counts, ← c.last_counts-last.ensures.text) (put_then (put_then front c.put_word-gates.ensures.0) c.put_line.ensures)

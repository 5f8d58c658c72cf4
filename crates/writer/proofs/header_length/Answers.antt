-- `writer::header_length` meets its contract: each number has its digits and a byte behind it. Assumes nothing.
use mathlib.Core.Path.{ap, ◌∙◌}
use lib.ListN.{length}
use Rattle.text.specs.Decimal.{decimal}
use Rattle.text.proofs.Bound.{head_room}
use Rattle.writer.proofs.FirstLine.{last_length, head_length, counts_length}
use native.Mathlib.Omega.{arith}
use Rattle.writer.proofs.header_length.Goals as goal

pub overflow_add-result-5 : goal.overflow_add-result-5
overflow_add-result-5 c =
    let last = c.line_length.ensures ∙ last_length c.args.counts c.last_counts.ensures in
    omega (arith, last, head_room c.args.counts c.requires, head_length c.args.counts, counts_length c.args.counts)

pub returns : goal.returns
returns c =
    let counts = c.args.counts in
    let last = c.line_length.ensures ∙ last_length counts c.last_counts.ensures in
    omega (arith, last, head_length counts, counts_length counts, ap (λ n. length (decimal n)) c.variables.ensures)

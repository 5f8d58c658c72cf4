-- `anyorder::read_any` meets its contract: 1, the first line, and then the lines behind it. Assumes nothing.
use mathlib.Core.Path.{refl}
use mathlib.Core.List.{[]}
use Rattle.circuit.proofs.Answering.{numbered, went_on}
use Rattle.anyorder.proofs.Answering.{left_refused, left_turned, left_same}
use Rattle.anyorder.proofs.Reading.{too_long, first_refused, first_bounded, first_most, goes_on}
use Rattle.anyorder.proofs.read_any.Goals as goal

pub returns-then-text-gt-MOST_TEXT : goal.returns-then-text-gt-MOST_TEXT
returns-then-text-gt-MOST_TEXT c = left_refused _ _ (too_long _ _ _ refl c.if-text-gt-MOST_TEXT.true)

pub returns-in_err-header_refusal : goal.returns-in_err-header_refusal
returns-in_err-header_refusal c =
    let opening = c.opening_of-opening.ensures in
    left_turned _ _ _ _ c.from_residual.ensures.1 (first_refused _ _ _ opening.1 c.if-text-gt-MOST_TEXT.false opening.0 c.in_err-header_refusal.ensures (numbered _))

pub read_body-requires : goal.read_body-requires
read_body-requires c =
    let opening = c.opening_of-opening.ensures in
    let short = c.if-text-gt-MOST_TEXT.false in
    let none = went_on _ c.in_ok-header_refusal.was c.header_refusal.ensures in (
      opening.0.within,
      first_most _ [] [] opening.1 short opening.0 none c.counts_of-counts.ensures c.entry-most.ensures,
      first_bounded _ [] [] opening.1 short opening.0 none c.counts_of-counts.ensures c.entry-most.ensures,
    )

pub returns : goal.returns
returns c =
    let opening = c.opening_of-opening.ensures in
    let none = went_on _ c.in_ok-header_refusal.was c.header_refusal.ensures in
    left_same (goes_on _ _ _ opening.1 c.if-text-gt-MOST_TEXT.false opening.0 none c.counts_of-counts.ensures c.entry-most.ensures) c.read_body.ensures

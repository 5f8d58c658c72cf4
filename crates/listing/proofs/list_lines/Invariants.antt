-- `listing::list_lines` meets its contract: line by line, as `Turns` says. Assumes nothing.
use Rattle.text.specs.KindsInCode.{coded}
use Rattle.lines.specs.LinesInCode.{ending_bytes}
use Rattle.listing.specs.ListingInCode.{shown_by, worded, stand}
use Rattle.listing.proofs.Turning.{Turns}
use Rattle.listing.proofs.list_lines.Given as goal

abbrev pub invariant-loop : goal.invariant-loop
invariant-loop l =
    Turns (ending_bytes l.ending) l.text l.most (coded l.kind) (shown_by (coded l.kind 0)) (worded (coded l.kind 0)) l.count (stand l.initial.place.at l.initial.place.line l.initial.place.word l.initial.owns l.initial.words) (stand l.place.at l.place.line l.place.word l.owns l.words) l.counter

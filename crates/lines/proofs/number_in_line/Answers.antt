-- `lines::number_in_line` meets its contract: what stands behind the number decides. Assumes nothing.
use Rattle.lines.proofs.Endings.{number_within, in_line_none, in_line_last, in_line_end, in_line_more, in_line_other}
use Rattle.lines.proofs.number_in_line.Goals as goal

pub returns-in_err-found : goal.returns-in_err-found
returns-in_err-found c = rw c.from_residual.ensures (in_line_none _ _ _ c.in_err-found.ensures)

pub ending_at-requires : goal.ending_at-requires
ending_at-requires c = number_within c.in_ok-found.ensures

pub returns-in-Some : goal.returns-in-Some
returns-in-Some c = in_line_last _ _ _ c.in_ok-found.ensures c.in-Some.ensures

pub returns-then-found-text : goal.returns-then-found-text
returns-then-found-text c = in_line_end _ _ _ c.in_ok-found.ensures c.in_default.ensures c.if-found-text.true

pub returns-then-text-found-eq32 : goal.returns-then-text-found-eq32
returns-then-text-found-eq32 c = in_line_more _ _ _ c.in_ok-found.ensures c.in_default.ensures c.if-found-text.false c.if-text-found-eq32.true

pub returns : goal.returns
returns c = in_line_other _ _ _ c.in_ok-found.ensures c.in_default.ensures c.if-found-text.false c.if-text-found-eq32.false

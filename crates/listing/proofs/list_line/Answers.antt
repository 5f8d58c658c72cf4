-- `listing::list_line` meets its contract: refused, or listed. Assumes nothing.
use native.Mathlib.Omega.{arith}
use Rattle.circuit.proofs.Answering.{numbered, went_on}
use Rattle.listing.proofs.Bodies.{handed_on}
use Rattle.listing.proofs.Keeping.{line_refused, line_kept}
use Rattle.listing.proofs.Needs.{own_small, words_fit}
use Rattle.listing.proofs.list_line.Goals as goal

pub returns-in_err-line_refusal : goal.returns-in_err-line_refusal
returns-in_err-line_refusal c =
    λ own. handed_on _ _ c.from_residual.ensures.1 (line_refused _ _ _ _ own c.requires c.line-found.ensures c.in_err-line_refusal.ensures (numbered _))

pub keep_own-line-requires : goal.keep_own-line-requires
keep_own-line-requires c =
    let room = c.requires in
    (own_small _ _ _ c.line-found.ensures, omega arith)

pub fill_line-word-requires : goal.fill_line-word-requires
fill_line-word-requires c = words_fit _ _ c.requires (went_on _ c.in_ok-line_refusal.was c.line_refusal.ensures)

pub returns : goal.returns
returns c =
    let room = c.requires in
    let owns = c.keep_own-line.ensures in
    let words = c.fill_line-word.ensures in
    λ own. line_kept _ _ _ _ own room c.line-found.ensures (went_on _ c.in_ok-line_refusal.was c.line_refusal.ensures) room.owns_room room.words_room owns.0 words.0 owns.1 words.1

-- `anyorder::read_body` meets its contract: the lines are kept in two lists, and then judged. Assumes nothing.
use mathlib.Core.Path.{sym}
use native.Mathlib.Omega.{arith}
use lib.Seq.{length-take-le}
use Rattle.circuit.proofs.Answering.{numbered}
use Rattle.anyorder.proofs.Answering.{left_turned, left_same}
use Rattle.anyorder.proofs.Reading.{lines_refused, lines_kept, words_kept, owns_enough, spoken, lines_read}
use Rattle.anyorder.proofs.read_body.Goals as goal

pub returns-in_err-listed : goal.returns-in_err-listed
returns-in_err-listed c = left_turned _ _ _ _ c.from_residual.ensures.1 (lines_refused _ _ _ _ _ _ _ _ c.in_err-listed.ensures.says (numbered _))

pub slice_bounds-owns-end : goal.slice_bounds-owns-end
slice_bounds-owns-end c = let pre = c.requires in lines_kept c.in_ok-listed.ensures pre.2 (omega arith)

pub slice_bounds-words-end : goal.slice_bounds-words-end
slice_bounds-words-end c = let pre = c.requires in words_kept c.in_ok-listed.ensures pre.2 (omega arith)

pub slice_bounds-read_listed-end : goal.slice_bounds-read_listed-end
slice_bounds-read_listed-end c = let pre = c.requires in sym (length-take-le _ _ (lines_kept c.in_ok-listed.ensures pre.2 (omega arith)))

pub slice_bounds-read_listed-end-2 : goal.slice_bounds-read_listed-end-2
slice_bounds-read_listed-end-2 c = let pre = c.requires in sym (length-take-le _ _ (words_kept c.in_ok-listed.ensures pre.2 (omega arith)))

pub read_listed-requires : goal.read_listed-requires
read_listed-requires c =
    let pre = c.requires in
    let lists = c.in_ok-listed.ensures in
    (lists.within, pre.1, spoken lists pre.2 (omega arith) (omega arith), owns_enough lists pre.2 (omega arith))

pub returns : goal.returns
returns c = left_same (lines_read _ _ _ _ _ _ _ c.in_ok-listed.ensures.says) c.read_listed.ensures

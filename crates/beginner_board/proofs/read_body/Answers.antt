-- `beginner_board::read_body` meets its contract: the board is judged in the own table, and then the lent one is filled. Assumes nothing.
use mathlib.Core.Path.{refl}
use mathlib.Core.List.{List}
use Prim.Native.Nat.{ℕ}
use lib.ListN.{replicate}
use Rattle.reader.proofs.Answering.{body_fillable}
use Rattle.reader.proofs.Bodies.{returned}
use Rattle.beginner_board.proofs.Reading.{own_fillable, own_covers, large_board, badly_fed, board_read}
use Rattle.beginner_board.proofs.read_body.Goals as goal

-- the own table, before it is filled
abbrev fresh : List ℕ
fresh = replicate 88 0

pub returns-in_err-small_refusal : goal.returns-in_err-small_refusal
returns-in_err-small_refusal c =
    let pre = c.requires in
    rw (returned _ _ c.from_residual.ensures.1) (large_board _ _ pre.1 pre.0 pre.2 _ c.in_err-small_refusal.ensures)

pub fill-requires : goal.fill-requires
fill-requires c = let pre = c.requires in (pre.0.bounded, own_fillable _ pre.1 pre.0 fresh refl c.in_ok-small_refusal.ensures)

pub feed_refusal-requires : goal.feed_refusal-requires
feed_refusal-requires c = let pre = c.requires in (pre.0.bounded, own_covers _ pre.1 pre.0 fresh c.fill.ensures)

pub returns-in_err-feed_refusal : goal.returns-in_err-feed_refusal
returns-in_err-feed_refusal c =
    let pre = c.requires in
    rw (returned _ _ c.from_residual-in_err-feed_refusal.ensures.1) (badly_fed _ _ pre.1 pre.0 pre.2 c.in_ok-small_refusal.ensures fresh c.fill.ensures _ c.in_err-feed_refusal.ensures)

pub fill-requires-2 : goal.fill-requires-2
fill-requires-2 c = let pre = c.requires in (pre.0.bounded, body_fillable _ pre.1 pre.0 _ pre.2)

pub returns : goal.returns
returns c =
    let pre = c.requires in
    board_read _ _ pre.1 pre.0 pre.2 c.in_ok-small_refusal.ensures fresh c.fill.ensures c.in_ok-feed_refusal.ensures c.fill-2.ensures

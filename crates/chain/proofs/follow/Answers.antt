use mathlib.Core.Path.{refl}
use Rattle.chain.proofs.Following.{turn_first, cubes_fit, state_record, held_room, few_bytes, reached, reached_long, reached_record, stopped_now, full_now, count_small, next_fits_now, turn_next}
use native.Mathlib.Omega.{arith}
use Rattle.chain.proofs.follow.Goals as goal

pub loop-back-init : goal.loop-back-init
loop-back-init c =
    let pre = c.requires in
    turn_first _ _ _ _ _ _ _ pre.0 c.args.board.now.legal.bounded.latches _ _ pre.1 refl

pub reach-requires : goal.reach-requires
reach-requires c =
    let t = c.loop-back.invariant in
    (state_record _ _ _ _ _ _ _ t, held_room _ _ _ _ _ _ _ t, t.going.ready, t.long)

pub goes_to-requires : goal.goes_to-requires
goes_to-requires c =
    let t = c.loop-back.invariant in
    let left = c.reach.ensures in
    let long = reached_long _ _ _ _ _ _ _ t _ _ left.1 in
    (cubes_fit _ _ _ _ _ _ _ t, few_bytes _ _ _ _ _ _ _ t, omega (arith, few_bytes _ _ _ _ _ _ _ t, long), reached_record _ _ _ _ _ _ _ t _ (reached _ _ _ _ _ _ _ t _ left.1) long, left.0)

pub returns-in-Some : goal.returns-in-Some
returns-in-Some c =
    let t = c.loop-back.invariant in
    let left = c.reach.ensures.1 in
    stopped_now _ _ _ _ _ _ _ t _ (reached _ _ _ _ _ _ _ t _ left) (reached_long _ _ _ _ _ _ _ t _ _ left) _ c.goes_to.ensures.0 _ c.in-Some.is

pub returns-then-count-room : goal.returns-then-count-room
returns-then-count-room c =
    let t = c.loop-back.invariant in
    let left = c.reach.ensures.1 in
    full_now _ _ _ _ _ _ _ t _ (reached _ _ _ _ _ _ _ t _ left) (reached_long _ _ _ _ _ _ _ t _ _ left) _ c.goes_to.ensures.0 c.in_default.is c.if-count-room.true

pub advance-progress-requires : goal.advance-progress-requires
advance-progress-requires c =
    let t = c.loop-back.invariant in
    let left = c.reach.ensures.1 in
    let r = reached _ _ _ _ _ _ _ t _ left in
    let long = reached_long _ _ _ _ _ _ _ t _ _ left in
    let gone = c.goes_to.ensures.0 in
    let on = c.in_default.is in
    let more = c.if-count-room.false in
    (count_small _ _ _ _ _ _ _ t _ r long _ gone on more, few_bytes _ _ _ _ _ _ _ t, next_fits_now _ _ _ _ _ _ _ t _ r long _ gone on more, omega (arith, few_bytes _ _ _ _ _ _ _ t, long), t.going.broad, t.going.wide)

pub loop-back-smaller : goal.loop-back-smaller
loop-back-smaller c =
    let t = c.loop-back.invariant in
    let more = c.if-count-room.false in
    omega (arith, c.advance-progress.ensures.counts, t.within)

pub loop-back-preserved : goal.loop-back-preserved
loop-back-preserved c =
    let t = c.loop-back.invariant in
    let left = c.reach.ensures.1 in
    let gone = c.goes_to.ensures in
    turn_next _ _ _ _ _ _ _ t _ (reached _ _ _ _ _ _ _ t _ left) (reached_long _ _ _ _ _ _ _ t _ _ left) _ gone.0 c.in_default.is c.if-count-room.false _ _ _ c.advance-progress.ensures gone.1

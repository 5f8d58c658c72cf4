use mathlib.Core.Path.{refl}
use native.Mathlib.Nat.{zero-mul}
use Rattle.pass.proofs.WorkingTable.{fresh_begins}
use Rattle.judge.proofs.Passing.{passing_first, both_records, passing_next}
use Rattle.judged.proofs.Walking.{judgeable, of_length, asked, asked_first, after_cube, walked_part, walked_all}
use native.Mathlib.Omega.{arith}
use Rattle.judged.proofs.all_go_on.Goals as goal

pub goes_on-requires : goal.goes_on-requires
goes_on-requires c =
    let s = of_length _ _ _ _ (judgeable _ _ _ _ c.args.board.now.legal c.requires.0 c.requires.1) c.cube_bytes-len.ensures in
    (omega arith, rw zero-mul at (s.cube 0 s.some), after_cube _ _ _ _ _ (judgeable _ _ _ _ c.args.board.now.legal c.requires.0 c.requires.1) 0 _ c.onward.ensures, fresh_begins _ c.args.board.now.counts.inputs (omega (arith, s.legal.bounded.inputs)) c.fresh-values.ensures, c.requires.2)

pub returns-then-not-goes_on : goal.returns-then-not-goes_on
returns-then-not-goes_on c =
    let s = of_length _ _ _ _ (judgeable _ _ _ _ c.args.board.now.legal c.requires.0 c.requires.1) c.cube_bytes-len.ensures in
    walked_part _ _ _ _ _ _ 0 s.some (asked_first _ _ _ _ _ _ s _ c.onward.ensures c.goes_on.ensures.0) c.if-not-goes_on.true

pub loop-k-init : goal.loop-k-init
loop-k-init c =
    let s = of_length _ _ _ _ (judgeable _ _ _ _ c.args.board.now.legal c.requires.0 c.requires.1) c.cube_bytes-len.ensures in
    let went = c.goes_on.ensures in
    passing_first _ _ _ _ _ _ c.args.verdict.now c.requires.2 _ went.2 s (asked_first _ _ _ _ _ _ s _ c.onward.ensures went.0) c.if-not-goes_on.false _ _ went.1 refl

pub returns-then-not-goes_on-2 : goal.returns-then-not-goes_on-2
returns-then-not-goes_on-2 c =
    walked_part _ _ _ _ _ _ c.loop-k.k c.loop-k-test.true (asked _ _ _ _ _ _ c.loop-k.invariant.given c.loop-k.k _ c.onward-after.ensures c.goes_on-in-loop-k.ensures.0) c.if-not-goes_on-2.true

pub agree-requires : goal.agree-requires
agree-requires c =
    rw c.verdicts.ensures (both_records _ _ _ _ _ _ c.args.verdict.now c.requires.2 _ c.goes_on.ensures.2 c.loop-k.invariant c.loop-k-test.true _ c.goes_on-in-loop-k.ensures.2)

pub loop-k-preserved : goal.loop-k-preserved
loop-k-preserved c =
    let went = c.goes_on-in-loop-k.ensures in
    let merged = rw c.verdicts.ensures at c.agree.ensures in
    passing_next _ _ _ _ _ _ c.args.verdict.now c.requires.2 _ c.goes_on.ensures.2 c.loop-k.invariant c.loop-k-test.true _ went.2 (asked _ _ _ _ _ _ c.loop-k.invariant.given c.loop-k.k _ c.onward-after.ensures went.0) c.if-not-goes_on-2.false _ _ merged went.1

pub returns : goal.returns
returns c =
    walked_all _ _ _ _ _ _ c.args.verdict.now c.requires.2 _ c.goes_on.ensures.2 c.loop-k.invariant (omega arith)

use mathlib.Core.Path.{refl}
use native.Mathlib.Nat.{zero-mul}
use Rattle.pass.proofs.WorkingTable.{fresh_begins}
use Rattle.sent.proofs.Walking.{of_length}
use Rattle.judge.proofs.Passing.{passing_first, both_records, passing_next}
use Rattle.sent.proofs.Passing.{walked_nothing, judgeable, asked, asked_first, walked_none, walked_part, walked_all}
use native.Mathlib.Omega.{arith}
use Rattle.sent.proofs.first_uncovered.Goals as goal

pub returns-then-n-eq0 : goal.returns-then-n-eq0
returns-then-n-eq0 c = walked_nothing _ _ _ _ c.verdicts-fields.ensures c.if-n-eq0.true _ c.fill_record.ensures

pub next_covered-requires : goal.next_covered-requires
next_covered-requires c =
    let s = of_length _ _ _ _ c.args.board.now.legal c.requires.0 c.cube_bytes-len.ensures in
    (s.stand, omega arith, rw zero-mul at (s.stand.cube 0 (omega (arith, c.if-n-eq0.false))), fresh_begins _ c.args.board.now.counts.inputs (omega (arith, s.legal.bounded.inputs)) c.fresh-values.ensures, c.requires.1)

pub returns-then-not-next_covered : goal.returns-then-not-next_covered
returns-then-not-next_covered c =
    let j = judgeable _ _ _ _ _ (of_length _ _ _ _ c.args.board.now.legal c.requires.0 c.cube_bytes-len.ensures) (omega (arith, c.if-n-eq0.false)) in
    walked_none _ _ _ _ _ j (asked_first _ _ _ _ _ j c.next_covered.ensures.0) c.if-not-next_covered.true _

pub loop-k-init : goal.loop-k-init
loop-k-init c =
    let j = judgeable _ _ _ _ _ (of_length _ _ _ _ c.args.board.now.legal c.requires.0 c.cube_bytes-len.ensures) (omega (arith, c.if-n-eq0.false)) in
    let next = c.next_covered.ensures in
    passing_first _ _ _ _ _ _ c.args.verdict.now c.requires.1 _ next.2 j (asked_first _ _ _ _ _ j next.0) c.if-not-next_covered.false _ _ next.1 refl

pub returns-then-not-next_covered-2 : goal.returns-then-not-next_covered-2
returns-then-not-next_covered-2 c =
    let first = c.next_covered.ensures.2 in
    walked_part _ _ _ _ _ c.args.verdict.now c.requires.1 _ first c.loop-k.invariant c.loop-k-test.true (asked _ _ _ _ _ c.loop-k.invariant.given _ c.next_covered-in-loop-k.ensures.0) c.if-not-next_covered-2.true

pub agree-requires : goal.agree-requires
agree-requires c =
    let first = c.next_covered.ensures.2 in
    let next = c.next_covered-in-loop-k.ensures in
    rw c.verdicts-fields.ensures (both_records _ _ _ _ _ _ c.args.verdict.now c.requires.1 _ first c.loop-k.invariant c.loop-k-test.true _ next.2)

pub loop-k-preserved : goal.loop-k-preserved
loop-k-preserved c =
    let first = c.next_covered.ensures.2 in
    let next = c.next_covered-in-loop-k.ensures in
    passing_next _ _ _ _ _ _ c.args.verdict.now c.requires.1 _ first c.loop-k.invariant c.loop-k-test.true _ next.2 (asked _ _ _ _ _ c.loop-k.invariant.given _ next.0) c.if-not-next_covered-2.false _ _ (rw c.verdicts-fields.ensures at c.agree.ensures) next.1

pub returns : goal.returns
returns c =
    let first = c.next_covered.ensures.2 in
    walked_all _ _ _ _ _ c.args.verdict.now c.requires.1 _ first c.loop-k.invariant (omega arith)

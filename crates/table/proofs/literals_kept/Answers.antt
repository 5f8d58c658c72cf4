use mathlib.Core.Path.{ap, ◌∙◌}
use borrow.Author.Tests.{lt-leb, le-leb}
use lib.Dec.{leb}
use Rattle.three.proofs.Loops.{tried_first, tried_next, tried_fails, tried_all, range_length, range_at}
use Rattle.circuit.specs.RulesInCode.{literal_kept}
use native.Mathlib.Omega.{arith}
use Rattle.table.proofs.literals_kept.Goals as goal

pub loop-word-init : goal.loop-word-init
loop-word-init c = tried_first _ _

pub returns-then-word-most : goal.returns-then-word-most
unfolding literal_kept
returns-then-word-most c =
    let within = rw (range_length _ _ _ c.requires) at c.loop-word-test.true in
    tried_fails _ _ within (ap (λ w. leb w c.args.most) (range_at _ _ _ c.requires _ 0 within)) (lt-leb _ _ c.if-word-most.true)

pub loop-word-preserved : goal.loop-word-preserved
unfolding literal_kept
loop-word-preserved c =
    let within = rw (range_length _ _ _ c.requires) at c.loop-word-test.true in
    tried_next _ _ c.loop-word.invariant within (ap (λ w. leb w c.args.most) (range_at _ _ _ c.requires _ 0 within)) (le-leb _ _ c.if-word-most.false)

pub returns : goal.returns
returns c = tried_all _ _ c.loop-word.invariant (rw (range_length _ _ _ c.requires) at c.loop-word-test.false)

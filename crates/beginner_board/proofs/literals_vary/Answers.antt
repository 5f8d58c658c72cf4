use mathlib.Core.Path.{refl}
use borrow.Author.Tests.{lt-leb, le-leb}
use Rattle.three.proofs.Loops.{tried_next, tried_fails, tried_all}
use Rattle.beginners.specs.Rules.{varies}
use Rattle.beginner_board.proofs.literals_vary.Goals as goal

pub returns-then-table-at-lt2 : goal.returns-then-table-at-lt2
unfolding varies
returns-then-table-at-lt2 c = tried_fails _ _ c.loop-i-test.true refl (lt-leb _ _ c.if-table-at-lt2.true)

pub loop-i-preserved : goal.loop-i-preserved
unfolding varies
loop-i-preserved c = tried_next _ _ c.loop-i.invariant c.loop-i-test.true refl (le-leb _ _ c.if-table-at-lt2.false)

pub returns : goal.returns
returns c = tried_all _ _ c.loop-i.invariant c.loop-i-test.false

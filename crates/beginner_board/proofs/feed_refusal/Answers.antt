-- `beginner_board::feed_refusal` meets its contract: next literals, lamps and gates are tried in the order of the list. Assumes nothing.
use Rattle.beginners.proofs.Rules.{nexts_break, literals_break, gates_break, feed_passes}
use Rattle.beginner_board.proofs.Refusing.{from_first, in_turn}
use Rattle.beginner_board.proofs.feed_refusal.Goals as goal

pub returns-then-not-literals_vary : goal.returns-then-not-literals_vary
returns-then-not-literals_vary c = nexts_break _ _ (from_first _ _ _ c.literals_vary.ensures) c.if-not-literals_vary.true

pub returns-then-not-literals_vary-2 : goal.returns-then-not-literals_vary-2
returns-then-not-literals_vary-2 c =
    let vary = rw (c.literals_at.ensures, c.literals.ensures) at c.literals_vary-2.ensures in
    literals_break _ _ (from_first _ _ _ c.literals_vary.ensures) c.if-not-literals_vary.false (in_turn _ _ _ vary) c.if-not-literals_vary-2.true

pub returns-then-not-gates_fed : goal.returns-then-not-gates_fed
returns-then-not-gates_fed c =
    let vary = rw (c.literals_at.ensures, c.literals.ensures) at c.literals_vary-2.ensures in
    gates_break _ _ (from_first _ _ _ c.literals_vary.ensures) c.if-not-literals_vary.false (in_turn _ _ _ vary) c.if-not-literals_vary-2.false (rw c.gates_at.ensures at c.gates_fed.ensures) c.if-not-gates_fed.true

pub returns : goal.returns
returns c =
    let vary = rw (c.literals_at.ensures, c.literals.ensures) at c.literals_vary-2.ensures in
    feed_passes _ _ (from_first _ _ _ c.literals_vary.ensures) c.if-not-literals_vary.false (in_turn _ _ _ vary) c.if-not-literals_vary-2.false (rw c.gates_at.ensures at c.gates_fed.ensures) c.if-not-gates_fed.false

-- `sent::first_uncovered` meets its contract: cube after cube is passed, or found uncovered, and its lamps and bad states are merged into those before;
-- where there is no cube each verdict is never. Assumes nothing.
use Rattle.judge.proofs.Passing.{Passing}
use Rattle.sent.proofs.Passing.{covered_at}
use Rattle.sent.proofs.first_uncovered.Given as goal

abbrev pub invariant-loop-k : goal.invariant-loop-k
invariant-loop-k l = Passing l.board.counts l.board.table.now l.len l.n l.cubes (covered_at l.board.counts l.board.table.now l.len l.n l.cubes) l.initial.verdict l.verdict l.values.bytes l.seen l.k

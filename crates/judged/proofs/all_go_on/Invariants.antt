-- `judged::all_go_on` meets its contract: each cube's next state is compared, and what gets a verdict in it is merged into that before it. Assumes nothing.
use Rattle.judge.proofs.Passing.{Passing}
use Rattle.judged.proofs.Walking.{follows}
use Rattle.judged.proofs.all_go_on.Given as goal

abbrev pub invariant-loop-k : goal.invariant-loop-k
invariant-loop-k l = Passing l.board.counts l.board.table.now l.len l.n l.cubes (follows l.board.counts l.board.table.now l.n l.j l.cubes) l.initial.verdict l.verdict l.values.bytes l.watched l.k

-- `stored::start_blocked` meets its contract: cube 0 is made as a record, and its constraints are read. Assumes nothing.
use Rattle.stored.proofs.Constraining.{free_of, start_record, start_is_blocked}
use Rattle.pass.proofs.WorkingTable.{fresh_begins}
use native.Mathlib.Omega.{arith}
use Rattle.stored.proofs.start_blocked.Goals as goal

pub returns-then-board-eq0 : goal.returns-then-board-eq0
returns-then-board-eq0 c = free_of c.args.board.now.counts _ c.if-board-eq0.true _

pub blocked-requires : goal.blocked-requires
blocked-requires c =
    let b = c.args.board.now in
    let ranges = b.legal.bounded in
    (start_record b.counts _ _ _ c.store_start.ensures (omega (arith, ranges)), fresh_begins _ b.counts.inputs (omega (arith, ranges.inputs)) c.fresh-values.ensures)

pub returns : goal.returns
returns c = start_is_blocked c.args.board.now.counts _ _ _ c.store_start.ensures c.blocked.ensures.0

-- `why::settle_unknown` meets its contract: a new table has every switch X. Assumes nothing.
use Rattle.why.proofs.Explaining.{unknown_begins}
use Rattle.why.proofs.settle_unknown.Goals as goal

pub returns : goal.returns
returns c =
    unknown_begins _ _ _ _ _ c.args.board.now.legal.bounded.inputs c.fresh-values.ensures c.settle_state.ensures

-- `pass::settle` meets its contract: the constant and the switches are put in front of the state. Assumes nothing.
use Rattle.three.proofs.Pack.{length_unpack}
use Rattle.pass.proofs.Settling.{settle_begins}
use Rattle.pass.proofs.settle.Goals as goal

pub returns : goal.returns
returns c =
    settle_begins _ _ c.args.board.now.legal _ _ (length_unpack _ _) _ _ _ _ c.args.values.now.working c.put.ensures c.load.ensures c.settle_state.ensures

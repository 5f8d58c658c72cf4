-- `pass::settle_state` meets its contract: the state is loaded, and the gates are taken behind it. Assumes nothing.
use Rattle.three.proofs.Pack.{length_unpack}
use Rattle.pass.proofs.Settling.{legal_gates, state_begins}
use Rattle.pass.proofs.settle_state.Goals as goal

pub all_gates-requires : goal.all_gates-requires
all_gates-requires c = rw c.gates_at.ensures (legal_gates _ _ c.args.board.now.legal)

pub returns : goal.returns
returns c =
    state_begins _ _ c.args.board.now.legal _ (length_unpack _ _) _ _ _ c.args.values.now.working c.load.ensures (rw c.gates_at.ensures at c.all_gates.ensures)

-- `why::explain` meets its contract: from no marks what forces the value is marked, and that is stored. Assumes nothing.
use Rattle.three.proofs.Filling.{over_fields}
use Rattle.three.proofs.Pack.{length_unpack}
use Rattle.why.proofs.Explaining.{first_asked, marked_forcing}
use Rattle.why.proofs.explain.Goals as goal

pub follow-requires : goal.follow-requires
follow-requires c =
    let pre = c.requires in
    let asked = first_asked _ _ c.args.board.now.legal _ (length_unpack _ _) _ pre.1 _ pre.2 _ c.gates_at.ensures in
    (pre.3, asked.0, asked.1)

pub returns : goal.returns
returns c =
    let pre = c.requires in
    over_fields _ c.store_marked.ensures (marked_forcing _ _ c.args.board.now.legal _ _ pre.1 _ pre.2 _ c.gates_at.ensures _ c.follow.ensures)

-- `stored::latch_byte` meets its contract: the byte and the one below it are moved down. Assumes nothing.
use Rattle.stored.proofs.Lowering.{lowered_last, lowered_inner}
use Rattle.stored.proofs.latch_byte.Goals as goal

pub returns-then-k-len : goal.returns-then-k-len
returns-then-k-len c =
    lowered_last _ _ c.requires.0 c.args.cubes.now (λ i. (c.type_inv.cubes i).fits) c.args.at c.requires.2 _ c.if-k-len.true c.lowered.ensures

pub returns : goal.returns
returns c =
    lowered_inner _ _ c.requires.0 c.args.cubes.now (λ i. (c.type_inv.cubes i).fits) c.args.at c.requires.2 _ c.requires.3 c.if-k-len.false c.lowered-2.ensures

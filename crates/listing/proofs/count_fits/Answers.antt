-- `listing::count_fits` meets its contract: one number, two or three, three. Assumes nothing.
use Rattle.listing.proofs.Judging.{single_fits, latch_few, latch_fits, gate_fits}
use Rattle.listing.proofs.count_fits.Goals as goal

pub returns-in-Input : goal.returns-in-Input
returns-in-Input c = single_fits _ c.in-Input.is

pub returns-then-count-ge2 : goal.returns-then-count-ge2
returns-then-count-ge2 c = latch_fits _ c.in-Latch.is c.if-count-ge2.true

pub returns-else-count-ge2 : goal.returns-else-count-ge2
returns-else-count-ge2 c = latch_few _ c.in-Latch.is c.if-count-ge2.false

pub returns-in-Gate : goal.returns-in-Gate
returns-in-Gate c = gate_fits _ c.in-Gate.is

use lib.ListN.{length-drop}
use Rattle.cubes.proofs.StoredCube.{cube_of_sized, cube_bytes_lem, latch_bytes}
use Rattle.stored.proofs.Filled.{front, packed_next, packed_last}
use native.Mathlib.Omega.{arith}
use Rattle.stored.proofs.store_latches.Goals as goal

pub latch_byte-requires : goal.latch_byte-requires
latch_byte-requires c =
    let size = c.cube_bytes-len.ensures in
    let short = front _ (cube_of_sized _ _) c.record_length.ensures _ c.requires.3 c.loop-k.invariant in
    (size, omega (arith, size, c.requires.2.fits, cube_bytes_lem c.args.latches, length-drop c.args.at c.args.cubes.now), c.requires.2, omega (arith, size, latch_bytes c.args.latches, short, c.loop-k-test.true))

pub loop-k-preserved : goal.loop-k-preserved
loop-k-preserved c = packed_next _ (cube_of_sized _ _) c.record_length.ensures _ c.requires.3 c.loop-k.invariant c.loop-k-test.true c.latch_byte.ensures

pub returns : goal.returns
returns c = packed_last _ (cube_of_sized _ _) c.record_length.ensures _ c.requires.3 c.loop-k.invariant c.loop-k-test.false

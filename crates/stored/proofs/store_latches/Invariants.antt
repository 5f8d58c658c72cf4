-- `stored::store_latches` meets its contract: its bytes are stored in turn. Assumes nothing.
use lib.ListN.{drop}
use Rattle.three.specs.Record.{bytes_for, pack}
use Rattle.three.proofs.Loops.{Stored}
use Rattle.cubes.specs.Buffer.{cube_of}
use Rattle.stored.proofs.store_latches.Given as goal

abbrev pub invariant-loop-k : goal.invariant-loop-k
invariant-loop-k l = Stored l.initial.byte-items 0 (pack (cube_of l.latches (drop l.at l.cubes))) (bytes_for l.latches) l.byte-items l.k

-- `merging::store_common` meets its contract: AND of two bytes is the byte of the merged record, stored in turn. Assumes nothing.
use Rattle.three.specs.Cube.{merged}
use Rattle.three.specs.Record.{bytes_for, pack, unpack}
use Rattle.three.proofs.Loops.{Stored}
use Rattle.merging.proofs.store_common.Given as goal

abbrev pub invariant-loop-k : goal.invariant-loop-k
invariant-loop-k l = Stored l.initial.merged 0 (pack (merged (unpack l.fields l.a) (unpack l.fields l.b))) (bytes_for l.fields) l.merged l.k

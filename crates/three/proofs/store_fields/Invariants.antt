-- `three::store_fields` meets its contract: its bytes are stored in turn. Assumes nothing.
use Rattle.three.specs.Cube.{Cube}
use Rattle.three.specs.Record.{bytes_for, pack}
use Rattle.three.specs.GivenInCode.{GivenBy}
use Rattle.three.proofs.Loops.{Stored}
use Rattle.three.proofs.store_fields.Given as goal

abbrev pub invariant-loop-k : goal.invariant-loop-k
invariant-loop-k g l = (fields : Cube) → GivenBy (goal.F-post g l.field) l.count fields → Stored l.initial.out 0 (pack fields) (bytes_for l.count) l.out l.k

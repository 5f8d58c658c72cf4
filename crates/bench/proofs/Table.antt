-- The table of the bench circuits: every result that the contracts of reader and run allow is as the specification (9) says. Assumes nothing.
use mathlib.Core.Path.{refl}
use Rattle.witness.specs.Case.{MeantAll}
use Rattle.witness.specs.Computed.{computed}
use Rattle.witness.proofs.Cases.{proved}
use Rattle.bench.specs.Bench.{cases}

pub bench : MeantAll cases
unfolding computed cases
bench = proved cases refl

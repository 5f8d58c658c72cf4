-- A ring of latches, each following the one before and the first the inverse of the last: one latch changes at each tick. Assumes nothing.
use Rattle.std.specs.Prelude.{[], ℕ, zero, suc, ◌+◌, ◌*◌}
use Rattle.three.specs.Lists.{tabulate}
use Rattle.circuit.specs.Circuit.{Circuit}

unfoldable pub following : ℕ → ℕ → ℕ
following latches zero = 2 * latches + 1
following latches (suc i) = 2 * suc i

unfoldable pub ring : ℕ → Circuit
ring latches = record { inputs = 0; latches = tabulate latches (λ i. record { next = following latches i; reset = 0 }); lamps = []; gates = []; bads = []; constraints = [] }

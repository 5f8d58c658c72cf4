-- A circuit whose first latch has no start value: it is dark from the first tick on, and the second latch and the lamp have what it was.
-- As a text: aag 2 0 2 1 0/2 0 2/4 2/4/. Assumes nothing.
use Rattle.std.specs.Prelude.{Bool, false, List, [], ◌∷◌, ℕ}
use Rattle.three.specs.Lists.{tabulate, empty, also}
use Rattle.circuit.specs.declared.Counts.{Counts}
use Rattle.circuit.specs.Circuit.{Circuit}
use Rattle.circuit.specs.Table.{plain_counts, circuit_of}
use Rattle.cubes.specs.Judge.{JudgeGiven}
use Rattle.cubes.specs.Execution.{off, free, Execution}
use Rattle.cubes.specs.Run.{resets}

abbrev pub counts : Counts
counts = plain_counts 0 2 1 0

abbrev pub words : List ℕ
words = 0 ∷ 2 ∷ 2 ∷ 0 ∷ 4 ∷ []

abbrev pub circuit : Circuit
circuit = circuit_of counts words

-- these cubes, given to the judge with these buffers
abbrev pub given : List ℕ → ℕ → ℕ → List ℕ → List ℕ → JudgeGiven
given cubes n j verdict settled = record { counts = counts; table = words; cubes = cubes; n = n; j = j; verdict = verdict; settled = settled }

-- the execution whose first latch starts so
unfoldable pub from : Bool → Execution circuit
unfolding resets circuit_of tabulate
from v = record { switches = λ tick i. false; first = v ∷ false ∷ []; allowed = also free (also off empty) }

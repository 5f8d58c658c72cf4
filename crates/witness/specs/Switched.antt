-- A circuit whose lamp lights only where its switch changes: a latch keeps what the switch was, and the lamp is on where the latch is
-- on and the switch is off. As a text: aag 3 1 1 1 1/2/4 2/6/6 4 3/. Assumes nothing.
use Rattle.std.specs.Prelude.{Bool, false, List, [], ◌∷◌, ℕ, eqb}
use Rattle.three.specs.Lists.{tabulate, empty, also}
use Rattle.circuit.specs.declared.Counts.{Counts}
use Rattle.circuit.specs.Circuit.{Circuit}
use Rattle.circuit.specs.Table.{plain_counts, circuit_of}
use Rattle.cubes.specs.Judge.{JudgeGiven}
use Rattle.cubes.specs.Execution.{off, Execution}
use Rattle.cubes.specs.Run.{resets}

abbrev pub counts : Counts
counts = plain_counts 1 1 1 1

abbrev pub words : List ℕ
words = 2 ∷ 0 ∷ 6 ∷ 4 ∷ 3 ∷ []

abbrev pub circuit : Circuit
circuit = circuit_of counts words

-- these cubes, given to the judge with these buffers
abbrev pub given : List ℕ → ℕ → ℕ → List ℕ → List ℕ → JudgeGiven
given cubes n j verdict settled = record { counts = counts; table = words; cubes = cubes; n = n; j = j; verdict = verdict; settled = settled }

-- the execution under such a switch, off at first
unfoldable pub under : (ℕ → Bool) → Execution circuit
unfolding resets circuit_of tabulate
under switch = record { switches = λ tick i. switch tick; first = false ∷ []; allowed = also off empty }

-- whose switch is always the same, or on at tick t alone
abbrev pub always : Bool → Execution circuit
always v = under (λ tick. v)

abbrev pub once : ℕ → Execution circuit
once t = under (λ tick. eqb tick t)

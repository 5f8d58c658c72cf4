-- A circuit under an assumption that never holds: its lamp is lit for ever, a latch keeps what the switch was and is the bad state, and the constraint is 0.
-- As a text: aag 2 1 1 1 0 1 1/2/4 2/1/4/0/. Assumes nothing.
use Rattle.std.specs.Prelude.{List, [], ◌∷◌, ℕ}
use Rattle.circuit.specs.declared.Counts.{Counts}
use Rattle.circuit.specs.Circuit.{Circuit}
use Rattle.circuit.specs.Table.{circuit_of}
use Rattle.witness.specs.Answer.{RunGiven, Answer}

abbrev pub counts : Counts
counts = record { inputs = 1; latches = 1; lamps = 1; gates = 0; bads = 1; constraints = 1 }

abbrev pub words : List ℕ
words = 2 ∷ 0 ∷ 1 ∷ 4 ∷ 0 ∷ []

abbrev pub circuit : Circuit
circuit = circuit_of counts words

-- its run over these buffers
abbrev pub assumed : List ℕ → List ℕ → List ℕ → RunGiven
assumed cubes verdict settled = record { counts = counts; table = words; w = 0; cubes = cubes; verdict = verdict; settled = settled }

-- ended with no cube: lamp and bad state never, nothing settled
abbrev pub ended : Answer
ended = record { number = 0; n = 0; j = 0; s = 0; cubes = []; verdict = 0x50 ∷ []; settled = 0x00 ∷ [] }

-- How the code keeps cubes one after the other in a buffer; nothing here has to be believed. Assumes nothing.
use Rattle.std.specs.Prelude.{◌≡◌, Bool, Option, None, Some, List, ◌∷◌, ℕ, ◌+◌, ◌*◌, ◌<◌, ◌≤◌, eqb, get_or, replicate}
use Rattle.std.specs.Int.Bits.{bit_and}
use Rattle.three.specs.Lists.{tabulate, every}
use Rattle.three.specs.Value.{unknown, low, ternary}
use Rattle.three.specs.Cube.{Cube}
use Rattle.circuit.specs.declared.Counts.{Counts}
use Rattle.circuit.specs.Circuit.{settle}
use Rattle.circuit.specs.Table.{circuit_of}
use Rattle.pass.specs.ValuesInCode.{Begins}
use Rattle.cubes.specs.Run.{start_field, switches_unknown}
use Rattle.cubes.specs.BufferInCode.{raised_byte}
use Rattle.cubes.specs.HeldInCode.{kept_byte}

-- the fields of cube 0, from the table's words
unfoldable pub start_fields : List ℕ → ℕ → Cube
start_fields words count = tabulate count (λ i. start_field (get_or words (2 * i + 1) 0))

-- the len bytes of a cube's record: its mark, and its latches, which are given as a record, moved up by one field
unfoldable pub raised_bytes : ℕ → ℕ → List ℕ → List ℕ
raised_bytes len mark latches = tabulate len (λ i. raised_byte (get_or (mark ∷ latches) i 0) (get_or latches i 0))

-- len bytes of b with the held latches set to X
unfoldable pub kept_bytes : ℕ → List ℕ → List ℕ → List ℕ
kept_bytes len held b = tabulate len (λ i. kept_byte (get_or b i 0) (get_or held i 0))

-- the stored record at byte `at` covers b: no bit of its bytes is missing in b's
unfoldable pub covers_from : ℕ → List ℕ → List ℕ → ℕ → Bool
covers_from len cubes b at = every len (λ i. eqb (bit_and (get_or cubes (at + i) 0) (get_or b i 0)) (get_or cubes (at + i) 0))

-- what a search among n answers, j being the first number that passes, n where none does
abbrev pub FoundFirst : ℕ → ℕ → Option ℕ → Type 0
FoundFirst n j None = n ≤ j
FoundFirst n j (Some k) = (k ≡ j) × (k < n)

-- a working table with the constant and all switches X
abbrev pub SwitchesX : Counts → List ℕ → Type 0
SwitchesX c table = Begins table (low ∷ replicate c.inputs unknown)

-- and one that begins with the values of a circuit whose state is this cube
abbrev pub Settled : Counts → List ℕ → Cube → List ℕ → Type 0
Settled c words state table = Begins table (settle ternary (circuit_of c words) (switches_unknown (circuit_of c words)) state)

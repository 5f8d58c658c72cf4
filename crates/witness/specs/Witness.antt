-- One circuit on which each of the wrong versions of the specification (8.2) answers something else than the
-- contract: its run has more than two cubes, goes back to neither the first nor the last, settles some latches, and gives each verdict.
-- As a text: aag 4 0 4 3 0/2 1/4 5/6 0/8 2/6/7/4/. Assumes nothing.
use Rattle.std.specs.Prelude.{List, [], ◌∷◌, ℕ}
use Rattle.circuit.specs.declared.Counts.{Counts}
use Rattle.circuit.specs.Table.{plain_counts}
use Rattle.witness.specs.Answer.{RunGiven, Answer}

abbrev pub counts : Counts
counts = plain_counts 0 4 3 0

-- latch 0 becomes 1 and stays, latch 1 swings, latch 2 stays 0, latch 3 follows latch 0; then the three lamps
abbrev pub words : ℕ → ℕ → ℕ → List ℕ
words a b c = 1 ∷ 0 ∷ 5 ∷ 0 ∷ 0 ∷ 0 ∷ 2 ∷ 0 ∷ a ∷ b ∷ c ∷ []

abbrev given : List ℕ → List ℕ → List ℕ → List ℕ → RunGiven
given table cubes verdict settled = record { counts = counts; table = table; w = 0; cubes = cubes; verdict = verdict; settled = settled }

-- latch 2 as a lamp, its inverse, and latch 1
abbrev pub witness : List ℕ → List ℕ → List ℕ → RunGiven
witness = given (words 6 7 4)

-- the same with latch 1 first
abbrev pub other : List ℕ → List ℕ → List ℕ → RunGiven
other = given (words 4 6 7)

-- four cubes of two bytes, none of them widened, back to cube 2, latches 0, 2 and 3 settled; never, always, open
abbrev pub right : Answer
right = record { number = 0; n = 4; j = 2; s = 3; cubes = 0x55 ∷ 0x40 ∷ 0x69 ∷ 0x40 ∷ 0x65 ∷ 0x80 ∷ 0x69 ∷ 0x80 ∷ []; verdict = 0x60 ∷ []; settled = 0x86 ∷ [] }

-- open, never, always
abbrev pub right_other : Answer
right_other = record { number = 0; n = 4; j = 2; s = 3; cubes = 0x55 ∷ 0x40 ∷ 0x69 ∷ 0x40 ∷ 0x65 ∷ 0x80 ∷ 0x69 ∷ 0x80 ∷ []; verdict = 0x18 ∷ []; settled = 0x86 ∷ [] }

-- What the functions of the judge hand to each other; nothing here has to be believed. Assumes nothing.
use Rattle.std.specs.Prelude.{◌≡◌, Bool, true, false, ◌&&◌, ◌||◌, Option, Some, None, List, ◌++◌, ℕ, ◌*◌, take, drop}
use Rattle.three.specs.Lists.{every, over}
use Rattle.three.specs.Cube.{Cube, subsumes, known_fields}
use Rattle.three.specs.Record.{bytes_for, pack}
use Rattle.circuit.specs.declared.Counts.{Counts}
use Rattle.circuit.specs.Circuit.{Circuit}
use Rattle.circuit.specs.Table.{verdicts, circuit_of}
use Rattle.cubes.specs.Run.{blocked, verdict as verdict_of}
use Rattle.cubes.specs.Buffer.{cube_in}
use Rattle.cubes.specs.Given.{goes_on, is_chain}
use Rattle.stored.specs.CubesInCode.{raised_bytes, covers_from}
use Rattle.judge.specs.JudgeInCode.{settled_from}

-- the second is asked only where the first holds
unfoldable pub and_then : Bool → Bool → Bool
and_then a b = a && b

-- the latches of a record lie inside the cube of this number, where there is one, byte by byte
abbrev pub lies_in : ℕ → List ℕ → List ℕ → Option ℕ → Bool
lies_in len cubes latches None = false
lies_in len cubes latches (Some m) = covers_from len cubes (raised_bytes len 3 latches) (m * len)

-- b lies inside the cube of this number, where there is one
abbrev pub inside : (ℕ → Cube) → Option ℕ → Cube → Bool
inside cubes None b = false
inside cubes (Some m) b = subsumes (cubes m) b

-- or a constraint is 0 in it
unfoldable pub goes_into : Circuit → (ℕ → Cube) → Option ℕ → Cube → Bool
goes_into c cubes after b = inside cubes after b || blocked c b

-- what the walk through the cubes answers, and leaves where each next state goes to the cube that comes after
pub record Walked (c : Counts) (table cubes : List ℕ) (n j : ℕ) (verdict : List ℕ) (r : Bool) (verdict' : List ℕ) : Type 0 where
  pub follows : r ≡ every n (goes_on (circuit_of c table) (cube_in c.latches cubes) n j)
  pub judges : r ≡ true → verdict' ≡ over (pack (verdict_of (circuit_of c table) (cube_in c.latches cubes) n)) verdict

-- the same of the whole test
pub record ChainFound (c : Counts) (table cubes : List ℕ) (n j : ℕ) (verdict : List ℕ) (r : Bool) (verdict' : List ℕ) : Type 0 where
  pub decides : r ≡ is_chain (circuit_of c table) (cube_in c.latches cubes) n j
  pub judges : r ≡ true → verdict' ≡ over (pack (verdict_of (circuit_of c table) (cube_in c.latches cubes) n)) verdict

-- what is written where nothing is refused
pub record Written (c : Counts) (cubes : List ℕ) (n j : ℕ) (watched verdict settled : List ℕ) (s : ℕ) (verdict' settled' : List ℕ) : Type 0 where
  pub copies : verdict' ≡ take (bytes_for (verdicts c)) watched ++ drop (bytes_for (verdicts c)) verdict
  pub settles : settled' ≡ over (pack (settled_from c.latches cubes n j)) settled
  pub counts : s ≡ known_fields (settled_from c.latches cubes n j)

-- What the functions of a sent cover hand to each other; nothing here has to be believed. Assumes nothing.
use Rattle.std.specs.Prelude.{◌≡◌, Option, Some, None, List, ℕ, ◌<◌, IfSome}
use Rattle.three.specs.Lists.{over}
use Rattle.three.specs.Record.{pack}
use Rattle.circuit.specs.declared.Counts.{Counts}
use Rattle.circuit.specs.Table.{circuit_of}
use Rattle.circuit.specs.RulesInCode.{Legal}
use Rattle.cubes.specs.Run.{verdict as verdict_of}
use Rattle.cubes.specs.Buffer.{cube_in}
use Rattle.cubes.specs.BufferInCode.{Cubes}
use Rattle.cubes.specs.Given.{first_uncovered}

-- the tests before the cubes are looked into pass
pub record Sendable (c : Counts) (table : List ℕ) (len n : ℕ) (cubes : List ℕ) : Type 0 where
  pub legal : Legal c table
  pub stand : Cubes c.latches len n cubes

-- the number of the cube that is found, and n where there is none
abbrev pub place_in : ℕ → Option ℕ → ℕ
place_in n None = n
place_in n (Some k) = k

-- what the walk through the cubes answers, and leaves where none is uncovered
pub record Walked (c : Counts) (table cubes : List ℕ) (n : ℕ) (verdict : List ℕ) (r : Option ℕ) (verdict' : List ℕ) : Type 0 where
  pub names : place_in n r ≡ first_uncovered (circuit_of c table) (cube_in c.latches cubes) n
  pub within : IfSome r (λ k. k < n)
  pub judges : r ≡ None → verdict' ≡ over (pack (verdict_of (circuit_of c table) (cube_in c.latches cubes) n)) verdict

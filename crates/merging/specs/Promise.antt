-- "The merge is the narrowest single cube covering both" (specification, 2.9), over the bytes that were given and those that the call leaves. Assumes nothing.
use Rattle.std.specs.Prelude.{◌≡◌, true, List, ℕ}
use Rattle.three.specs.Cube.{Cube, subsumes}
use Rattle.three.specs.Record.{unpack}
use Rattle.merging.specs.Call.{MergeGiven}

module _ (g : MergeGiven) where
  -- the cube of a record
  unfoldable pub cube_in : List ℕ → Cube
  cube_in bytes = unpack g.fields bytes

  pub record Narrowest (number : ℕ) (merged : List ℕ) : Type 0 where
    pub covers_a : number ≡ 0 → subsumes (cube_in merged) (cube_in g.a) ≡ true
    pub covers_b : number ≡ 0 → subsumes (cube_in merged) (cube_in g.b) ≡ true
    pub narrowest : number ≡ 0 → (c : Cube) → subsumes c (cube_in g.a) ≡ true → subsumes c (cube_in g.b) ≡ true → subsumes c (cube_in merged) ≡ true

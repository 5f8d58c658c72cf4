-- What the judge needs and leaves; nothing here has to be believed. Assumes nothing.
use Rattle.std.specs.Prelude.{◌≡◌, List, ℕ, suc, ◌*◌, ◌-◌, ◌<◌, ◌≤◌, length, drop, replicate}
use Rattle.three.specs.Value.{unknown}
use Rattle.three.specs.Cube.{Cube}
use Rattle.three.specs.Record.{unpack}
use Rattle.circuit.specs.declared.Counts.{Counts}
use Rattle.circuit.specs.RulesInCode.{Legal}
use Rattle.cubes.specs.Run.{merge_from}
use Rattle.cubes.specs.Buffer.{cube_bytes, cube_in}
use Rattle.cubes.specs.BufferInCode.{IsCube}

-- n cubes stand in the buffer, each a cube
pub record Judgeable (c : Counts) (words : List ℕ) (len n : ℕ) (cubes : List ℕ) : Type 0 where
  pub legal : Legal c words
  pub size : len ≡ cube_bytes c.latches
  pub some : 1 ≤ n
  pub fits : n * len ≤ length cubes
  pub cube : (k : ℕ) → k < n → IsCube c.latches (drop (k * len) cubes)

-- the same for latches alone, from cube j on
pub record Settleable (latches len n j : ℕ) (cubes : List ℕ) : Type 0 where
  pub few : latches ≤ 512
  pub size : len ≡ cube_bytes latches
  pub below : j < n
  pub fits : n * len ≤ length cubes
  pub cube : (k : ℕ) → k < n → IsCube latches (drop (k * len) cubes)

-- cube number k with its mark as a field in front, and what cubes j to n − 1 know alike with theirs
unfoldable pub fields_in : ℕ → List ℕ → ℕ → Cube
fields_in latches cubes k = unpack (suc latches) (drop (k * cube_bytes latches) cubes)

unfoldable pub merged_fields : ℕ → List ℕ → ℕ → ℕ → Cube
merged_fields latches cubes n j = merge_from (replicate (suc latches) unknown) (fields_in latches cubes) j (n - j)

-- the settled record by the count of latches alone
unfoldable pub settled_from : ℕ → List ℕ → ℕ → ℕ → Cube
settled_from latches cubes n j = merge_from (replicate latches unknown) (cube_in latches cubes) j (n - j)

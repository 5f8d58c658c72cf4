-- A cube in the buffer (specification, 5.5), and where it stands. What its bytes are is opened in proofs/StoredCube, Raised and Marks alone. Assumes nothing.
use Rattle.std.specs.Prelude.{◌≡◌, Bool, false, not, ◌&&◌, ℕ, zero, suc, ◌*◌, ◌<◌, eqb, length, drop}
use mathlib.Core.List.{List, ◌∷◌, flatten}
use Rattle.three.specs.Lists.{tabulate, every}
use Rattle.three.specs.Value.{known}
use Rattle.three.specs.Cube.{Cube}
use Rattle.three.specs.Record.{bytes_for, pack, pair_at, unpack, sound}
use Rattle.cubes.specs.Run.{due}

-- how many bytes a stored cube takes: a field for its mark, and one for each latch
unfoldable pub cube_bytes : ℕ → ℕ
cube_bytes latches = bytes_for (suc latches)

-- a stored cube's record: its mark, 01 plain (false) or 10 widened (true), and then the latches
unfoldable pub pack_cube : Bool → Cube → List ℕ
pack_cube widened cube = pack (known widened ∷ cube)

-- the cube that bytes open with; its mark is left off
unfoldable pub cube_of : ℕ → List ℕ → Cube
cube_of latches bytes = drop 1 (unpack (suc latches) bytes)

-- 14 does not refuse the cube that bytes open with: its record is sound, so that no mark is 11, and its mark is not 00
unfoldable pub sound_cube : ℕ → List ℕ → Bool
sound_cube latches bytes = sound (suc latches) bytes && not (eqb (pair_at bytes 0) 0)

-- cube number k starts at byte k × record length
unfoldable pub cube_in : ℕ → List ℕ → ℕ → Cube
cube_in latches buffer k = cube_of latches (drop (k * cube_bytes latches) buffer)

unfoldable pub sound_in : ℕ → List ℕ → ℕ → Bool
sound_in latches buffer k = sound_cube latches (drop (k * cube_bytes latches) buffer)

-- cubes 0 to n − 1 with their marks, one after the other
unfoldable pub pack_cubes : (ℕ → Bool) → (ℕ → Cube) → ℕ → List ℕ
pack_cubes marks cubes n = flatten (tabulate n (λ k. pack_cube (marks k) (cubes k)))

-- the marks of a run: cube number k is widened if its number was due, and cube 0 is plain
unfoldable pub marked : ℕ → ℕ → Bool
marked w zero = false
marked w (suc k) = due w (suc k)

-- two buffers of one length whose first n cubes differ in their marks alone, and 14 refuses both or none
pub record Remarked (latches n : ℕ) (buffer other : List ℕ) : Type 0 where
  pub long : length buffer ≡ length other
  pub good : every n (sound_in latches buffer) ≡ every n (sound_in latches other)
  pub same : (k : ℕ) → k < n → cube_in latches buffer k ≡ cube_in latches other k

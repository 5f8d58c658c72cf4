-- A cube in the buffer as the code has it; nothing here has to be believed. Assumes nothing.
use Rattle.std.specs.Prelude.{◌≡◌, true, List, ℕ, zero, suc, ◌+◌, ◌*◌, ◌/◌, ◌%◌, ◌<◌, ◌≤◌, length, drop}
use Rattle.three.specs.Value.{Three, decode}
use Rattle.three.specs.Cube.{Cube}
use Rattle.three.specs.Record.{byte_at, pair_at}
use Rattle.cubes.specs.Buffer.{cube_bytes, sound_cube}

-- the most bytes that a stored cube takes, of 512 latches
abbrev pub longest_cube : ℕ
longest_cube = 129

-- the mark of the cube that bytes open with, as a field
unfoldable pub mark_of : List ℕ → Three
mark_of bytes = decode (pair_at bytes 0)

-- these bytes open with a stored cube
pub record IsCube (latches : ℕ) (bytes : List ℕ) : Type 0 where
  pub fits : cube_bytes latches ≤ length bytes
  pub good : sound_cube latches bytes ≡ true

-- n cubes stand one after the other from the front of a buffer
pub record Cubes (latches len n : ℕ) (buffer : List ℕ) : Type 0 where
  pub size : len ≡ cube_bytes latches
  pub fits : n * len ≤ length buffer
  pub cube : (k : ℕ) → k < n → IsCube latches (drop (k * len) buffer)

-- four fields moved up by one: the last of the four above them comes in
unfoldable pub raised_byte : ℕ → ℕ → ℕ
raised_byte above byte = above % 4 * 64 + byte / 4

-- and moved down by one: the first of the four below them comes in
unfoldable pub lowered_byte : ℕ → ℕ → ℕ
lowered_byte byte below = byte % 64 * 4 + below / 64

-- byte number k of a record with a pair in front of its fields
unfoldable pub marked_byte : ℕ → Cube → ℕ → ℕ
marked_byte pair cube zero = raised_byte pair (byte_at cube 0)
marked_byte pair cube (suc k) = raised_byte (byte_at cube k) (byte_at cube (suc k))

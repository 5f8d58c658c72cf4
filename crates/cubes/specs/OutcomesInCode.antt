-- A run's outcome as the code tells it, and the cube for a tick; nothing here has to be believed. Assumes nothing.
use Rattle.std.specs.Prelude.{Bool, true, false, ℕ, ◌+◌, ◌-◌, ◌%◌, min}
use Rattle.cubes.specs.Run.{Ending, stops, full}

unfoldable pub has_stopped : Ending → Bool
has_stopped (stops n j) = true
has_stopped full = false

-- the cube for tick t of a run closed with n cubes back to j: t itself below n, then round and round from j to n − 1
unfoldable pub place : ℕ → ℕ → ℕ → ℕ
place n j t = min t j + (t - j) % (n - j)

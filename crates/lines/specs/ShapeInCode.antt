-- The array of a line and how many of its places the line takes; nothing here has to be believed. Assumes nothing.
use Rattle.std.specs.Prelude.{◌≡◌, List, ℕ, ◌≤◌, length}

-- no line has more numbers
abbrev pub most_numbers : ℕ
most_numbers = 9

-- The array has a place for each number, of which the line takes so many
pub record Shape (count : ℕ) (numbers : List ℕ) : Type 0 where
  pub few : count ≤ most_numbers
  pub long : length numbers ≡ most_numbers

-- A function that gives the fields of a record one by one, as the code calls it; nothing here has to be believed. Assumes nothing.
use Rattle.std.specs.Prelude.{◌≡◌, ℕ, ◌<◌, length, get_or}
use Rattle.three.specs.Value.{unknown, code}
use Rattle.three.specs.Cube.{Cube}

-- it may be called for each of them, and gives values in their two bits
pub record Gives (pre : ℕ → Type 0) (post : ℕ → ℕ → Type 0) (count : ℕ) : Type 0 where
  pub calls : (i : ℕ) → i < count → pre i
  pub codes : (i r : ℕ) → i < count → post i r → r < 3

-- and these are the fields
pub record GivenBy (post : ℕ → ℕ → Type 0) (count : ℕ) (fields : Cube) : Type 0 where
  pub sized : length fields ≡ count
  pub gives : (i r : ℕ) → i < count → post i r → r ≡ code (get_or fields i unknown)

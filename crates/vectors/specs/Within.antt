-- How many elements at the front of a buffer. Assumes nothing.
use Rattle.std.specs.Prelude.{◌≡◌, ℕ, ◌≤◌, List, length, take}

-- the buffer has so many; the second part follows from the first
abbrev pub Within : {A : Type 0} → ℕ → List A → Type 0
Within n xs = (n ≤ length xs) × (n ≡ length (take n xs))

-- Held latches as the code keeps them, pairs of bits beside a stored cube's; nothing here has to be believed. Assumes nothing.
use Rattle.std.specs.Prelude.{Bool, true, false, List, ℕ, ◌+◌, ◌*◌, ◌-◌, ◌/◌, get_or}
use Rattle.std.specs.Int.Bits.{bit_and, bit_or, bit_xor}

-- a held latch is the pair 11
unfoldable pub held_pair : Bool → ℕ
held_pair true = 3
held_pair false = 0

-- byte number k
unfoldable pub held_byte : List Bool → ℕ → ℕ
held_byte held k =
    64 * held_pair (get_or held (4 * k) false) + 16 * held_pair (get_or held (4 * k + 1) false)
    + 4 * held_pair (get_or held (4 * k + 2) false) + held_pair (get_or held (4 * k + 3) false)

-- a record's byte with its held fields set to X
unfoldable pub kept_byte : ℕ → ℕ → ℕ
kept_byte byte held = bit_and byte (255 - held)

-- the pairs that differ in two bytes, as pairs 11
unfoldable pub differing_byte : ℕ → ℕ → ℕ
differing_byte x y = let z : ℕ = bit_xor x y in 3 * bit_and (bit_or z (z / 2)) 85

-- Records (specification, 2.7 and 2.8): two bits a field, field 0 in the most significant bits of byte 0. Assumes nothing.
use Rattle.std.specs.Prelude.{Bool, false, not, ◌&&◌, ◌||◌, List, [], ◌∷◌, ℕ, ◌+◌, ◌*◌, ◌-◌, ◌/◌, ◌%◌, ◌^◌, max, eqb, length, get_or}
use Rattle.three.specs.Lists.{tabulate, every}
use Rattle.three.specs.Value.{Three, unknown, code, decode}
use Rattle.three.specs.Cube.{Cube}

-- a record of f fields takes f / 4 bytes rounded up, and at least one
abbrev pub bytes_for : ℕ → ℕ
bytes_for f = max 1 ((f + 3) / 4)

-- four fields in a byte
unfoldable pub byte_of : Three → Three → Three → Three → ℕ
byte_of a b c d = 64 * code a + 16 * code b + 4 * code c + code d

-- byte number k of a record: fields 4 × k to 4 × k + 3; leftover bits are 0, as those of an unknown field
unfoldable pub byte_at : Cube → ℕ → ℕ
byte_at fields k =
    byte_of (get_or fields (4 * k) unknown) (get_or fields (4 * k + 1) unknown) (get_or fields (4 * k + 2) unknown) (get_or fields (4 * k + 3) unknown)

-- the record of these fields
unfoldable pub pack : Cube → List ℕ
pack fields = tabulate (bytes_for (length fields)) (byte_at fields)

-- the four pairs of a byte
unfoldable pub pairs : ℕ → List ℕ
pairs byte = byte / 64 % 4 ∷ byte / 16 % 4 ∷ byte / 4 % 4 ∷ byte % 4 ∷ []

-- pair number i of a record
unfoldable pub pair_at : List ℕ → ℕ → ℕ
pair_at bytes i = get_or (pairs (get_or bytes (i / 4) 0)) (i % 4) 0

-- the f fields that a record holds
unfoldable pub unpack : ℕ → List ℕ → Cube
unpack f bytes = tabulate f (λ i. decode (pair_at bytes i))

-- some pair is 11
unfoldable pub bad : List ℕ → Bool
bad [] = false
bad (p ∷ ps) = eqb p 3 || bad ps

-- the leftover bits of a record of f fields: the low bits of its last byte
unfoldable pub leftover : ℕ → List ℕ → ℕ
leftover f bytes = get_or bytes (bytes_for f - 1) 0 % 4 ^ (4 * bytes_for f - f)

-- a given record is not refused by 14: no byte has a pair 11, and no leftover bit is set
unfoldable pub sound : ℕ → List ℕ → Bool
sound f bytes = every (bytes_for f) (λ k. not (bad (pairs (get_or bytes k 0)))) && eqb (leftover f bytes) 0

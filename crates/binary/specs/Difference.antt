-- Differences (specification, 4.16): numbers in groups of seven bits, low group first, the top bit set on all but the last.
-- Decided here: a difference that is cut off, longer than two bytes, or has a needless zero group is ill-formed; bytes are below 256. Assumes nothing.
use Rattle.std.specs.Prelude.{Bool, true, false, ◌&&◌, List, [], ◌∷◌, ℕ, zero, suc, ◌+◌, ◌*◌, ◌-◌, ◌/◌, ◌%◌, ltb}
use Rattle.text.specs.Part.{Part, got, ill}

-- the groups of n, at most fuel + 1 of them
unfoldable pub groups_of : ℕ → ℕ → List ℕ
groups_of zero n = n ∷ []
groups_of (suc fuel) n = elim (ltb n 128) [ true ↦ n ∷ [] | false ↦ (128 + n % 128) ∷ groups_of fuel (n / 128) ]

-- n in groups of seven bits
unfoldable pub groups : ℕ → List ℕ
groups n = groups_of n n

-- a last group that is needed: without the top bit, and not 0
unfoldable pub last_group : ℕ → Bool
last_group b = ltb 0 b && ltb b 128

-- the second group, behind a first one with the seven bits low
unfoldable pub read_second : ℕ → List ℕ → Part ℕ
read_second low [] = ill
read_second low (b ∷ t) = elim (last_group b) [ true ↦ got (low + b * 128) t | false ↦ ill ]

-- one group, or two
unfoldable pub read_difference : List ℕ → Part ℕ
read_difference [] = ill
read_difference (b ∷ t) = elim (ltb b 128) [ true ↦ got b t | false ↦ read_second (b - 128) t ]

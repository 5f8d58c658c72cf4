-- Numbers in a text (specification, 4.1): how one is written, and how one is read.
-- Decided here: a sixth digit, or a digit behind a leading zero, makes the number and its line ill-formed. Assumes nothing.
use Rattle.std.specs.Prelude.{Bool, true, false, ◌&&◌, List, [], ◌∷◌, ◌++◌, ℕ, zero, suc, ◌+◌, ◌*◌, ◌-◌, ◌/◌, ◌%◌, leb, ltb}
use Rattle.text.specs.Part.{Part, got, ill}

-- the last digits of n, at most fuel + 1 of them
unfoldable pub digits : ℕ → ℕ → List ℕ
digits zero n = (48 + n) ∷ []
digits (suc fuel) n = elim (ltb n 10) [ true ↦ (48 + n) ∷ [] | false ↦ digits fuel (n / 10) ++ ((48 + n % 10) ∷ []) ]

-- n in decimal, most significant digit first, with no leading zero
unfoldable pub decimal : ℕ → List ℕ
decimal n = digits n n

-- the bytes of `0` to `9`
unfoldable pub is_digit : ℕ → Bool
is_digit b = leb 48 b && leb b 57

-- a digit may follow n: n is no leading zero, and has at most four digits
unfoldable pub may_grow : ℕ → Bool
may_grow n = ltb 0 n && ltb n 10000

-- reads on behind digits that make n
unfoldable pub read_on : ℕ → List ℕ → Part ℕ
read_on n [] = got n []
read_on n (b ∷ t) = elim (is_digit b) [ true ↦ elim (may_grow n) [ true ↦ read_on (n * 10 + (b - 48)) t | false ↦ ill ] | false ↦ got n (b ∷ t) ]

-- one to five digits and no leading zero except `0` itself, as far as the digits go
unfoldable pub read_number : List ℕ → Part ℕ
read_number [] = ill
read_number (b ∷ t) = elim (is_digit b) [ true ↦ read_on (b - 48) t | false ↦ ill ]

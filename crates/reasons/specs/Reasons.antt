-- Why a lamp stays dark or lit, cube by cube (specification, 6): a line for each group of consecutive cubes with the same explanation.
-- In a quoted text `/` stands for byte 10. Assumes nothing.
use Rattle.std.specs.Prelude.{Bool, false, not, cond, ◌||◌, List, [], ◌∷◌, ◌++◌, ℕ, zero, suc, ◌-◌, eqb}
use Rattle.three.specs.Value.{Three, unknown}
use Rattle.three.specs.Cube.{Cube, alike}
use Rattle.text.specs.Bench.{bytes}
use Rattle.cubes.specs.Given.{same}
use Rattle.rows.specs.Rows.{item, said}

unfoldable pub is_known : Three → Bool
is_known v = not (alike v unknown)

-- what stands before a latch: the first, and each that follows one
unfoldable pub link : Bool → List ℕ
link begun = cond begun (bytes ", ") (bytes ": ")

-- what is said of latch number i: nothing where it is not needed
unfoldable pub forced : Bool → ℕ → Three → List ℕ
forced begun i v = cond (is_known v) (link begun ++ (item (bytes "latch ") i ++ said (bytes " = 0") (bytes " = 1") [] v)) []

-- the latches from number i on, and what is said where there is none at all
unfoldable pub latches : Bool → ℕ → Cube → List ℕ
latches begun i [] = cond begun [] (bytes ": no latch: the gates alone")
latches begun i (v ∷ vs) = forced begun i v ++ latches (begun || is_known v) (suc i) vs

-- one cube, or several
unfoldable pub named : ℕ → ℕ → List ℕ
named from last = cond (eqb from last) (item (bytes "cube ") from) (item (bytes "cubes ") from ++ item (bytes " to ") last)

-- the line of cubes `from` to `last`, with their explanation
unfoldable pub line : ℕ → ℕ → Cube → List ℕ
line from last why = named from last ++ (latches false 0 why ++ bytes "/")

module _ (why : ℕ → Cube) where
  -- a group goes from cube `from` to cube k at least; so many cubes come after that
  unfoldable pub told : ℕ → ℕ → ℕ → List ℕ
  told from k zero = line from k (why k)
  told from k (suc more) = cond (same (why k) (why (suc k))) (told from (suc k) more) (line from k (why k) ++ told (suc k) (suc k) more)

  -- the lines from cube k on, of n cubes
  unfoldable pub told_from : ℕ → ℕ → List ℕ
  told_from n k = elim (n - k) [ zero ↦ [] | suc more ↦ told k k more ]

-- The rows of a report (specification, 6): a line for each lamp, each bad state and each latch. In a quoted text `/` stands for byte 10. Assumes nothing.
use Rattle.std.specs.Prelude.{List, [], ◌∷◌, ◌++◌, ℕ, suc}
use Rattle.three.specs.Value.{Three, unknown, low, high}
use Rattle.three.specs.Cube.{Cube}
use Rattle.text.specs.Decimal.{decimal}
use Rattle.text.specs.Bench.{bytes}
use Rattle.rows.specs.declared.Row.{Row}

-- a name and its number
unfoldable pub item : List ℕ → ℕ → List ℕ
item name n = name ++ decimal n

-- what is said of a field: of 0, of 1, and of X
unfoldable pub said : List ℕ → List ℕ → List ℕ → Three → List ℕ
said off on either v = elim v [ low ↦ off | high ↦ on | unknown ↦ either ]

-- a verdict's word
abbrev pub verdict_said : Three → List ℕ
verdict_said v = said (bytes " never/") (bytes " always/") (bytes " open/") v

-- the line of lamp, bad state or latch number i
unfoldable pub row : Row → ℕ → Three → List ℕ
row Row.Lamp i v = item (bytes "lamp ") i ++ verdict_said v
row Row.Bad i v = item (bytes "bad ") i ++ verdict_said v
row Row.Latch i v = item (bytes "latch ") i ++ said (bytes " 0/") (bytes " 1/") (bytes " -/") v

-- a line for each field, numbered from i on
unfoldable pub rows : Row → ℕ → Cube → List ℕ
rows r i [] = []
rows r i (v ∷ vs) = row r i v ++ rows r (suc i) vs

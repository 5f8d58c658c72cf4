-- Lines (specification, 4.2): one or more numbers, one space between, and the ending. Assumes nothing.
use Rattle.std.specs.Prelude.{true, false, List, [], ◌∷◌, ◌++◌, ℕ, zero, suc, eqb}
use Rattle.text.specs.Part.{Part, got, ill}
use Rattle.text.specs.Decimal.{decimal, read_number}

-- byte 10, which ends each line that is written
abbrev pub newline : List ℕ
newline = 10 ∷ []

-- bytes 13 and 10, which end each line of a text that an office computer saved
abbrev pub office_newline : List ℕ
office_newline = 13 ∷ 10 ∷ []

-- what stands between two numbers
abbrev pub space : List ℕ
space = 32 ∷ []

-- the line of these numbers, with its ending
unfoldable pub ended_line : List ℕ → List ℕ → List ℕ
ended_line ending [] = []
ended_line ending (n ∷ []) = decimal n ++ ending
ended_line ending (n ∷ m ∷ ns) = decimal n ++ space ++ ended_line ending (m ∷ ns)

-- the same as it is written
abbrev pub line_text : List ℕ → List ℕ
line_text ns = ended_line newline ns

-- takes these bytes off the front
unfoldable pub strip : List ℕ → List ℕ → Part (Unit {0})
strip [] t = got tt t
strip (b ∷ bs) [] = ill
strip (b ∷ bs) (d ∷ t) = elim (eqb b d) [ true ↦ strip bs t | false ↦ ill ]

-- n in front of the numbers read
unfoldable pub prepend : ℕ → Part (List ℕ) → Part (List ℕ)
prepend n part = elim part [ got ns t ↦ got (n ∷ ns) t | ill ↦ ill ]

-- the numbers of a line that has at most `most` of them
unfoldable pub split_line : List ℕ → ℕ → List ℕ → Part (List ℕ)
split_line ending zero t = ill
split_line ending (suc most) t = elim (read_number t) [
  | ill ↦ ill
  | got n r ↦ elim (strip ending r) [
    | got u rest ↦ got (n ∷ []) rest
    | ill ↦ elim (strip space r) [ got u rest ↦ prepend n (split_line ending most rest) | ill ↦ ill ]
  ]
]

-- the numbers of a line of the body, which has at most three
abbrev pub read_line : List ℕ → List ℕ → Part (List ℕ)
read_line ending t = split_line ending 3 t

-- What functions inside hand to each other: positions in place of what is left; nothing here has to be believed. Assumes nothing.
use Rattle.std.specs.Prelude.{◌≡◌, List, [], ℕ, ◌-◌, ◌≤◌, ◌<◌, length, Option, Some, None}
use Rattle.text.specs.Part.{Part, got, ill}
use Rattle.lines.specs.declared.Number.{Number}
use Rattle.lines.specs.LinesInCode.{from, NumberFound}
use Rattle.reports.specs.declared.Left.{Left}
use Rattle.reports.specs.Reports.{read_size, read_sizes, total, reports_on, printed}

-- the number itself
unfoldable pub value_of : Option Number → ℕ
value_of (Some n) = n.value
value_of None = 0

-- A size of a stream, at the front of t
pub record SizeFound (stream t : List ℕ) (n : Option Number) : Type 0 where
  pub found : NumberFound stream (read_size t) n
  pub short : value_of n < 100000

-- what sizes make together, in place of them
unfoldable pub summed : Part (List ℕ) → Part ℕ
summed (got ns rest) = got (total ns) rest
summed ill = ill

-- what is left to print: so many texts, of which the first has its size and its bytes at these positions
unfoldable pub left_at : List ℕ → Left → List ℕ
left_at stream l = elim (read_sizes l.texts (from stream l.sizes)) [ got ns rest ↦ reports_on ns (from stream l.at) | ill ↦ [] ]

-- their sizes add up to what is left of the stream
pub record Framed (stream : List ℕ) (l : Left) : Type 0 where
  pub rest : List ℕ
  pub sums : summed (read_sizes l.texts (from stream l.sizes)) ≡ got (length stream - l.at) rest
  pub sizes_within : l.sizes ≤ length stream
  pub within : l.at ≤ length stream

-- and that is the whole; nothing is printed of a stream without one
abbrev pub FrameFound : List ℕ → Option Left → Type 0
FrameFound stream (Some l) = Framed stream l × (printed stream ≡ left_at stream l)
FrameFound stream None = printed stream ≡ []

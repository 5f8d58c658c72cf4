-- Many reports (specification, 6.3): what is printed for the bytes on standard input. In them stand, each on a line of its own, how many texts there are and their
-- sizes, and then the texts. Assumes nothing.
use Rattle.std.specs.Prelude.{cond, List, [], ◌∷◌, ◌++◌, ℕ, zero, suc, ◌+◌, eqb, length, get_or, take, drop}
use Rattle.text.specs.Part.{Part, got, ill}
use Rattle.text.specs.Line.{newline, prepend, split_line}
use Rattle.reported.specs.Report.{report_of}

-- a size on a line of its own
unfoldable pub read_size : List ℕ → Part ℕ
read_size t = elim (split_line newline 1 t) [ got ns rest ↦ got (get_or ns 0 0) rest | ill ↦ ill ]

-- so many of them
unfoldable pub read_sizes : ℕ → List ℕ → Part (List ℕ)
read_sizes zero t = got [] t
read_sizes (suc texts) t = elim (read_size t) [ got n rest ↦ prepend n (read_sizes texts rest) | ill ↦ ill ]

-- what they make together
unfoldable pub total : List ℕ → ℕ
total [] = 0
total (n ∷ ns) = n + total ns

-- the reports on texts of these sizes, one behind the other
unfoldable pub reports_on : List ℕ → List ℕ → List ℕ
reports_on [] t = []
reports_on (n ∷ ns) t = report_of (take n t) ++ reports_on ns (drop n t)

-- nothing where a size is no number, or the sizes do not add up to what follows them
unfoldable pub printed : List ℕ → List ℕ
printed stream = elim (read_size stream) [
  | ill ↦ []
  | got texts rest ↦ elim (read_sizes texts rest) [ ill ↦ [] | got ns t ↦ cond (eqb (total ns) (length t)) (reports_on ns t) [] ]
]

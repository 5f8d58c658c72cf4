-- What is sent as the number of texts, their sizes and the texts is answered by their reports, one behind the other. Assumes nothing.
use mathlib.Core.Path.{◌≡◌, refl, ap, ◌∙◌}
use mathlib.Core.List.{List, [], ◌∷◌, ◌++◌, map, append_assoc}
use Prim.Native.Nat.{ℕ, suc, ◌<◌}
use native.Mathlib.Omega.{arith}
use borrow.Author.Tests.{eq-eqb}
use lib.ListN.{length, length-append}
use lib.Seq.{take-append_seam, drop_at}
use Rattle.text.specs.Part.{got}
use Rattle.text.specs.Line.{newline, line_text, prepend}
use Rattle.text.proofs.Lines.{Short, newline_proper, line_split}
use Rattle.reported.specs.Report.{report_of}
use Rattle.reports.specs.Reports.{read_size, read_sizes, total, reports_on, printed}
use Rattle.reports.proofs.Sizes.{sizes_on}

-- lists one behind the other
unfoldable pub joined : List (List ℕ) → List ℕ
joined [] = []
joined (t ∷ ts) = t ++ joined ts

-- a line for the size of each
unfoldable pub size_lines : List (List ℕ) → List ℕ
size_lines [] = []
size_lines (t ∷ ts) = line_text (length t ∷ []) ++ size_lines ts

unfoldable pub sent : List (List ℕ) → List ℕ
sent ts = line_text (length ts ∷ []) ++ (size_lines ts ++ joined ts)

abbrev sizes_of : List (List ℕ) → List ℕ
sizes_of ts = map (λ t. length t) ts

size_read : (n : ℕ) (t : List ℕ) → n < 100000 → read_size (line_text (n ∷ []) ++ t) ≡ got n t
unfolding read_size
size_read n t h = let e = line_split newline newline_proper 1 (n ∷ []) t (omega arith) (omega arith) (h, tt) in rw (read_size, e)

sizes_read : (ts : List (List ℕ)) (rest : List ℕ) → Short (sizes_of ts) → read_sizes (length ts) (size_lines ts ++ rest) ≡ got (sizes_of ts) rest
unfolding read_sizes size_lines prepend
sizes_read [] rest s = refl
sizes_read (t ∷ ts) rest s =
    ap (read_sizes (suc (length ts))) (append_assoc (line_text (length t ∷ [])) (size_lines ts) rest)
    ∙ sizes_on (length ts) (line_text (length t ∷ []) ++ (size_lines ts ++ rest)) (size_read (length t) (size_lines ts ++ rest) s.0)
    ∙ rw (sizes_read ts rest s.1)

total_joined : (ts : List (List ℕ)) → total (sizes_of ts) ≡ length (joined ts)
unfolding total joined
total_joined [] = refl
total_joined (t ∷ ts) = rw length-append (omega (arith, total_joined ts))

reports_joined : (ts : List (List ℕ)) → reports_on (sizes_of ts) (joined ts) ≡ joined (map (λ t. report_of t) ts)
unfolding reports_on joined
reports_joined [] = refl
reports_joined (t ∷ ts) = rw (take-append_seam t (joined ts), drop_at t (joined ts) (length t) refl, reports_joined ts)

pub all_reported : (ts : List (List ℕ)) → length ts < 100000 → Short (sizes_of ts) → printed (sent ts) ≡ joined (map (λ t. report_of t) ts)
unfolding printed sent
all_reported ts few short =
    let count = size_read (length ts) (size_lines ts ++ joined ts) few in
    let on = eq-eqb (total (sizes_of ts)) (length (joined ts)) (total_joined ts) in
    rw (printed, sent, count, sizes_read ts (joined ts) short, on) (reports_joined ts)

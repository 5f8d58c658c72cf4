-- A line's numbers with the own literal in front, and a line of the body so completed. Assumes nothing.
use mathlib.Core.Path.{◌≡◌, refl, sym, ◌∙◌, ap}
use mathlib.Core.List.{List, ◌∷◌}
use Prim.Native.Nat.{ℕ, zero, suc, ◌+◌, ◌-◌, ◌≤◌}
use native.Mathlib.Numerals.{add-one}
use native.Mathlib.Omega.{arith}
use borrow.Author.Tests.{ltb-true, ltb-false}
use lib.Dec.{ltb}
use lib.ListN.{get_or, take, replicate}
use Rattle.circuit.specs.Table.{Kind}
use Rattle.three.specs.Lists.{tabulate}
use Rattle.three.proofs.Lists.{by_test}
use Rattle.text.specs.Line.{newline, read_line}
use Rattle.text.specs.declared.LineKind.{LineKind}
use Rattle.text.specs.declared.LineKind.TheVariants.{Input, Latch, Lamp, Gate}
use Rattle.text.specs.KindsInCode.{coded}
use Rattle.text.proofs.Coding.{coded_latch}
use Rattle.text.proofs.Lines.{split_line_lem}
use Rattle.text.proofs.Spelling.{listed}
use Rattle.lines.specs.declared.read_line.ReadLine.{ReadLine}
use Rattle.lines.specs.LinesInCode.{from, numbers_of, LineFound}
use Rattle.lines.specs.ShapeInCode.{Shape, most_numbers}
use Rattle.lines.proofs.Finding.{line_length, line_got}
use Rattle.binary.specs.Binary.{owned}

-- ---- each number moves one place back

front_three : (n a b c : ℕ) (r s : List ℕ) → n ≤ 3 → take n (a ∷ b ∷ c ∷ r) ≡ take n (a ∷ b ∷ c ∷ s)
front_three zero a b c r s h = refl
front_three (suc zero) a b c r s h = refl
front_three (suc (suc zero)) a b c r s h = refl
front_three (suc (suc (suc zero))) a b c r s h = refl
front_three (suc (suc (suc (suc n)))) a b c r s h = absurd (omega arith)

abbrev own_numbers : List ℕ → ℕ → List ℕ
own_numbers ns own = own ∷ get_or ns 0 0 ∷ get_or ns 1 0 ∷ get_or ns 2 0 ∷ replicate (most_numbers - 4) own

pub own_numbers_lem : (l : ReadLine) (own : ℕ) (shape : Shape (l.count + 1) (own_numbers l.numbers own)) → l.count ≤ 3
    → numbers_of (record { count = l.count + 1; numbers = own_numbers l.numbers own; next = l.next; shape = shape }) ≡ own ∷ numbers_of l
unfolding numbers_of tabulate
own_numbers_lem l own shape h = rw add-one (ap (λ (t : List ℕ). own ∷ t) (front_three l.count _ _ _ _ _ h ∙ ap (take l.count) (sym (listed most_numbers l.numbers l.shape.long))))

-- ---- a line of the body has at most three numbers

pub line_few : {text : List ℕ} (t : List ℕ) (l : ReadLine) → LineFound text (read_line newline t) l → l.count ≤ 3
line_few t l f = by_test (ltb 0 l.count)
    (λ b. omega (arith, (split_line_lem newline 3 (line_got l f (ltb-true 0 l.count b))).few, line_length l))
    (λ b. omega (arith, ltb-false 0 l.count b))

-- ---- by its kind

-- A line of a text, with the own literal that the line of its kind does not show
pub record RowLine (text : List ℕ) (at : ℕ) (k : Kind) (r : ReadLine) : Type 0 where
  pub line : ReadLine
  pub found : LineFound text (read_line newline (from text at)) line
  pub same : numbers_of r ≡ owned k (numbers_of line)
  pub next : r.next ≡ line.next

other_owned : (k : LineKind) (own : ℕ) (ns : List ℕ) → (k ≡ Latch → ⊥) → ns ≡ owned (coded k own) ns
unfolding owned coded
other_owned Input own ns h = refl
other_owned Latch own ns h = absurd (h refl)
other_owned Lamp own ns h = refl
other_owned Gate own ns h = refl

module _ {text : List ℕ} {at : ℕ} {found : ReadLine} (f : LineFound text (read_line newline (from text at)) found) where
  pub latch_row : {k : LineKind} {own : ℕ} {r : ReadLine} → k ≡ Latch → numbers_of r ≡ own ∷ numbers_of found → r.next ≡ found.next → RowLine text at (coded k own) r
  unfolding owned
  latch_row {k} {own} e n p = rw (coded_latch own e) (record { line = found; found = f; same = n; next = p })

  pub other_row : (k : LineKind) (own : ℕ) → (k ≡ Latch → ⊥) → RowLine text at (coded k own) found
  other_row k own h = record { line = found; found = f; same = other_owned k own (numbers_of found) h; next = refl }

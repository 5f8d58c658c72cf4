-- A text that an office computer saved, each byte 10 as the bytes 13 and 10, is read as the same circuit, if it has not become too long. Assumes nothing.
use mathlib.Core.Path.{◌≡◌, refl, ap, ◌∙◌}
use mathlib.Core.Bool.{true, false}
use mathlib.Core.List.{List, [], ◌∷◌, ◌++◌}
use Prim.Native.Nat.{ℕ, zero, suc, ◌+◌, ◌%◌, ◌/◌, ◌≤◌}
use native.Mathlib.Omega.{arith}
use borrow.Author.Tests.{ne_eqb}
use lib.Dec.{eqb, ltb}
use lib.ListN.{length}
use Rattle.three.proofs.Lists.{by_test}
use Rattle.circuit.specs.Table.{Kind}
use Rattle.text.specs.Decimal.{digits, decimal}
use Rattle.text.specs.Line.{newline, office_newline, ended_line}
use Rattle.text.specs.Outcome.{accepted}
use Rattle.text.specs.Text.{ending_of, Content, read_text}
use Rattle.text.proofs.Grammar.{Says, stop, line, Closing, done, noted, Describes}
use Rattle.text.proofs.Endings.{by_office, described, describes}

unfoldable pub saved : List ℕ → List ℕ
saved [] = []
saved (b ∷ t) = elim (eqb b 10) [ true ↦ 13 ∷ 10 ∷ saved t | false ↦ b ∷ saved t ]

saved_other : (b : ℕ) (t : List ℕ) → (b ≡ 10 → ⊥) → saved (b ∷ t) ≡ b ∷ saved t
unfolding saved
saved_other b t h = rw (saved, ne_eqb b 10 h)

saved_append : (s t : List ℕ) → saved (s ++ t) ≡ saved s ++ saved t
unfolding saved
saved_append [] t = refl
saved_append (b ∷ s) t = by_test (eqb b 10) (λ e. rw (saved, e, saved_append s t)) (λ e. rw (saved, e, saved_append s t))

saved_digits : (fuel n : ℕ) → saved (digits fuel n) ≡ digits fuel n
unfolding digits saved
saved_digits zero n = saved_other (48 + n) [] (λ e. omega arith)
saved_digits (suc fuel) n = by_test (ltb n 10)
    (λ e. rw (digits, e) (saved_other (48 + n) [] (λ e. omega arith)))
    (λ e. rw (digits, e, saved_append, saved_digits fuel (n / 10), saved_other (48 + n % 10) [] (λ e. omega arith)))

saved_decimal : (n : ℕ) → saved (decimal n) ≡ decimal n
unfolding decimal
saved_decimal n = saved_digits n n

saved_line : (ns : List ℕ) → saved (ended_line newline ns) ≡ ended_line office_newline ns
unfolding ended_line saved
saved_line [] = refl
saved_line (n ∷ []) = rw (saved_append, saved_decimal n)
saved_line (n ∷ m ∷ ns) = rw (saved_append, saved_append, saved_decimal n, saved_line (m ∷ ns))

saved_says : {r : List ℕ} {ks : List Kind} {ws t : List ℕ} → Says newline r ks ws t → Says office_newline (saved r) ks ws (saved t)
saved_says stop = stop
saved_says (line {ns = ns} {t = t} s rest) = rw (saved_append, saved_line ns) (line s (saved_says rest))

saved_closing : {r : List ℕ} → Closing newline r → Closing office_newline (saved r)
unfolding saved
saved_closing done = done
saved_closing (noted t) = noted (saved t)

saved_describes : {t : List ℕ} {c : Content} → length (saved t) ≤ 60000 → Describes newline t c → Describes office_newline (saved t) c
unfolding saved
saved_describes short d = record {
  short = short;
  legal = d.legal;
  whole = d.whole;
  head = d.head;
  heads = d.heads;
  body = saved d.body;
  text = ap saved d.text ∙ rw (saved_append, saved_append, saved_line d.head);
  rest = saved d.rest;
  says = saved_says d.says;
  closes = saved_closing d.closes;
}

pub saved_alike : (t : List ℕ) {c : Content} → read_text t ≡ accepted c → ending_of t ≡ newline → length (saved t) ≤ 60000 → read_text (saved t) ≡ accepted c
saved_alike t a e short = described by_office (saved_describes short (rw e at (describes t a)))

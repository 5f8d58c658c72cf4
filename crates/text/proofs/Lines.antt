-- Laws of lines and of bytes at the front: what is written is read back, and what is read was so written. Assumes nothing.
use mathlib.Core.Path.{◌≡◌, refl, sym, ◌∙◌}
use mathlib.Core.Bool.{Bool, true, false, true≢false}
use mathlib.Core.List.{List, [], ◌∷◌, ◌++◌, append_assoc}
use Prim.Native.Nat.{ℕ, zero, suc, ◌≤◌, ◌<◌}
use native.Mathlib.Omega.{arith}
use borrow.Author.Tests.{eqb-true, eq-eqb}
use lib.Dec.{eqb}
use lib.ListN.{length, get_or, drop}
use Rattle.three.specs.Lists.{every}
use Rattle.three.proofs.Lists.{and_parts, by_test}
use Rattle.text.specs.Part.{Part, got, ill}
use Rattle.text.specs.Decimal.{is_digit, read_number}
use Rattle.text.specs.Line.{newline, space, strip, prepend, split_line, ended_line}
use Rattle.text.proofs.Parts.{Holds, held, by_part}
use Rattle.text.proofs.Numerals.{no_digit, decimal_read, Numeral, read_decimal}

-- ---- bytes at the front

pub strip_none : (b : ℕ) (bs : List ℕ) → strip (b ∷ bs) [] ≡ ill
unfolding strip
strip_none b bs = refl

pub strip_other : (b d : ℕ) (bs t : List ℕ) → eqb b d ≡ false → strip (b ∷ bs) (d ∷ t) ≡ ill
unfolding strip
strip_other b d bs t e = rw (strip, e)

pub strip_same : (b d : ℕ) (bs t : List ℕ) → eqb b d ≡ true → strip (b ∷ bs) (d ∷ t) ≡ strip bs t
unfolding strip
strip_same b d bs t e = rw (strip, e)

pub strip_front : (bs t : List ℕ) → strip bs (bs ++ t) ≡ got tt t
unfolding strip
strip_front [] t = refl
strip_front (b ∷ bs) t = strip_same b b bs (bs ++ t) (eq-eqb b b refl) ∙ strip_front bs t

pub front_strip : (bs t r : List ℕ) {u : Unit {0}} → strip bs t ≡ got u r → t ≡ bs ++ r
unfolding strip
front_strip [] t r e = cc
front_strip (b ∷ bs) [] r e = cc
front_strip (b ∷ bs) (d ∷ t) r e = by_test (eqb b d)
    (λ q. cc (front_strip bs t r (sym (strip_same b d bs t q) ∙ e), eqb-true b d q))
    (λ q. cc (strip_other b d bs t q))

-- t opens with bs, byte by byte
abbrev pub opening : List ℕ → List ℕ → Bool
opening bs t = every (length bs) (λ i. eqb (get_or bs i 0) (get_or t i 0))

pub strip_short : (bs t : List ℕ) → length t < length bs → strip bs t ≡ ill
strip_short [] t h = absurd (omega arith)
strip_short (b ∷ bs) [] h = strip_none b bs
strip_short (b ∷ bs) (d ∷ t) h = by_test (eqb b d) (λ e. strip_same b d bs t e ∙ strip_short bs t (omega arith)) (strip_other b d bs t)

pub strip_alike : (bs t : List ℕ) → length bs ≤ length t → opening bs t ≡ true → strip bs t ≡ got tt (drop (length bs) t)
unfolding every strip
strip_alike [] t h e = refl
strip_alike (b ∷ bs) [] h e = absurd (omega arith)
strip_alike (b ∷ bs) (d ∷ t) h e = let p = and_parts (eqb b d) (opening bs t) e in strip_same b d bs t p.0 ∙ strip_alike bs t (omega arith) p.1

pub strip_unlike : (bs t : List ℕ) → length bs ≤ length t → opening bs t ≡ false → strip bs t ≡ ill
unfolding every
strip_unlike [] t h e = absurd (true≢false e)
strip_unlike (b ∷ bs) [] h e = strip_none b bs
strip_unlike (b ∷ bs) (d ∷ t) h e = by_test (eqb b d) (λ q. strip_same b d bs t q ∙ strip_unlike bs t (omega arith) (rw q at e)) (strip_other b d bs t)

-- ---- reading, number by number: what stands behind it decides

module _ (ending : List ℕ) (most : ℕ) (t : List ℕ) where
  pub number_ill : read_number t ≡ ill → split_line ending (suc most) t ≡ ill
  unfolding split_line
  number_ill e = rw (split_line, e)

  module _ {n : ℕ} {r : List ℕ} (e : read_number t ≡ got n r) where
    pub number_last : {rest : List ℕ} → strip ending r ≡ got tt rest → split_line ending (suc most) t ≡ got (n ∷ []) rest
    unfolding split_line
    number_last f = rw (split_line, e, f)

    module _ (f : strip ending r ≡ ill) where
      pub number_more : {rest : List ℕ} → strip space r ≡ got tt rest → split_line ending (suc most) t ≡ prepend n (split_line ending most rest)
      unfolding split_line
      number_more g = rw (split_line, e, f, g)

      pub number_other : strip space r ≡ ill → split_line ending (suc most) t ≡ ill
      unfolding split_line
      number_other g = rw (split_line, e, f, g)

-- ---- what is written is read back

-- each number has at most five digits
abbrev pub Short : List ℕ → Type 0
Short [] = Unit {0}
Short (n ∷ ns) = (n < 100000) × Short ns

-- an ending that no number and no space takes for its own
pub record Proper (ending : List ℕ) : Type 0 where
  pub breaks : (t : List ℕ) → no_digit (ending ++ t) ≡ true
  pub apart : (t : List ℕ) → strip ending (space ++ t) ≡ ill

pub newline_proper : Proper newline
unfolding no_digit is_digit strip
newline_proper = record { breaks = λ t. refl; apart = λ t. refl }

pub line_split : (ending : List ℕ) → Proper ending → (most : ℕ) (ns t : List ℕ) → 0 < length ns → length ns ≤ most → Short ns → split_line ending most (ended_line ending ns ++ t) ≡ got ns t
unfolding ended_line prepend no_digit is_digit
line_split ending e most [] t p h s = absurd (omega arith)
line_split ending e zero (n ∷ ns) t p h s = absurd (omega arith)
line_split ending e (suc most) (n ∷ []) t p h s = rw append_assoc (number_last ending most _ (decimal_read n (ending ++ t) s.0 (e.breaks t)) (strip_front ending t))
line_split ending e (suc most) (n ∷ m ∷ ns) t p h s =
    simp append_assoc (number_more ending most _ (decimal_read n (space ++ (ended_line ending (m ∷ ns) ++ t)) s.0 refl) (e.apart _) (strip_front space _)
    ∙ rw (line_split ending e most (m ∷ ns) t (omega arith) (omega arith) s.1))

-- ---- what is read was so written

module _ (ending : List ℕ) where
  -- t opens with the line of ns, and goes on with r
  pub record Opens (most : ℕ) (t ns r : List ℕ) : Type 0 where
    pub text : t ≡ ended_line ending ns ++ r
    pub some : 0 < length ns
    pub few : length ns ≤ most
    pub short : Short ns

  opens_prepend : (most : ℕ) {t : List ℕ} {n : ℕ} {r : List ℕ} → Numeral t n (space ++ r)
      → (p : Part (List ℕ)) → Holds (Opens most r) p → Holds (Opens (suc most) t) (prepend n p)
  unfolding prepend ended_line
  opens_prepend most num ill h = tt
  opens_prepend most num (got [] r) h = absurd (omega arith)
  opens_prepend most num (got (m ∷ ns) r) h = record { text = num.text ∙ simp append_assoc (rw (← h.text)); some = omega arith; few = omega arith; short = (num.short, h.short) }

  split_line_opens : (most : ℕ) (t : List ℕ) → Holds (Opens most t) (split_line ending most t)
  unfolding split_line ended_line
  split_line_opens zero t = tt
  split_line_opens (suc most) t = by_part (read_number t)
      (λ n r e. let num : Numeral t n r = read_decimal e in by_part (strip ending r)
      (λ u rest f. let g = front_strip ending r rest f in
      rw (number_last ending most t e f) (record { text = num.text ∙ rw (append_assoc, g); some = omega arith; few = omega arith; short = (num.short, tt) }))
      (λ f. by_part (strip space r)
      (λ u rest g. let h = front_strip space r rest g in
      rw (number_more ending most t e f g) (opens_prepend most (rw h at num) (split_line ending most rest) (split_line_opens most rest)))
      (λ g. rw (number_other ending most t e f g) tt)))
      (λ e. rw (number_ill ending most t e) tt)

  pub split_line_lem : (most : ℕ) {t ns r : List ℕ} → split_line ending most t ≡ got ns r → Opens most t ns r
  split_line_lem most {t} e = held _ (split_line_opens most t) e

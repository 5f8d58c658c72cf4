-- Laws of one written line: its text and its length by how many numbers it has, its numbers by its kind. Assumes nothing.
use mathlib.Core.Path.{◌≡◌, refl, ap, ◌∙◌}
use mathlib.Core.List.{List, [], ◌∷◌, ◌++◌, append_assoc}
use Prim.Native.Nat.{ℕ, zero, suc, ◌+◌, ◌<◌}
use native.Mathlib.Nat.{add-zero}
use native.Mathlib.Omega.{arith}
use lib.ListN.{length, length-append, get_or, drop}
use lib.Seq.{get_or-drop}
use Rattle.text.specs.declared.LineKind.{LineKind}
use Rattle.text.specs.declared.LineKind.TheVariants.{Input, Latch, Lamp, Gate}
use Rattle.writer.specs.declared.LineNumbers.{LineNumbers}
use Rattle.writer.specs.declared.LineNumbers.TheVariants.{One, Two, Three}
use Rattle.text.specs.Decimal.{decimal}
use Rattle.text.specs.Line.{line_text, ended_line}
use Rattle.text.specs.Text.{shown, numbers, line_of}
use Rattle.text.specs.KindsInCode.{coded}
use Rattle.writer.specs.WriterInCode.{line_numbers, Small, LatchLine, Shows}

-- ---- by how many numbers it has

-- the bytes of a number and the byte behind it
abbrev pub word : ℕ → ℕ → List ℕ
word n behind = decimal n ++ (behind ∷ [])

module _ {l : LineNumbers} where
  module _ {a : ℕ} (e : l ≡ One a) where
    pub one_line : line_text (line_numbers l) ≡ word a 10
    unfolding ended_line
    one_line = rw e

    pub one_length : length (line_text (line_numbers l)) ≡ length (decimal a) + 1
    one_length = rw one_line (simp length-append)

    pub one_small : Small l → a < 10000
    one_small s = rw e at s

  module _ {a b : ℕ} (e : l ≡ Two a b) where
    pub two_line : line_text (line_numbers l) ≡ word a 32 ++ word b 10
    unfolding ended_line
    two_line = rw e (simp append_assoc)

    pub two_length : length (line_text (line_numbers l)) ≡ length (decimal a) + 1 + (length (decimal b) + 1)
    two_length = rw two_line (simp length-append)

    pub two_small : Small l → (a < 10000) × (b < 10000)
    two_small s = rw e at s

  module _ {a b c : ℕ} (e : l ≡ Three a b c) where
    pub three_line : line_text (line_numbers l) ≡ (word a 32 ++ word b 32) ++ word c 10
    unfolding ended_line
    three_line = rw e (simp append_assoc)

    pub three_length : length (line_text (line_numbers l)) ≡ length (decimal a) + 1 + (length (decimal b) + 1) + (length (decimal c) + 1)
    three_length = rw three_line (simp length-append)

    pub three_small : Small l → (a < 10000) × (b < 10000) × (c < 10000)
    three_small s = rw e at s

-- ---- by its kind

-- "absent meaning 0"
pub latch_plain_lem : {own next reset : ℕ} → own < 10000 → next < 10000 → reset ≡ 0 → LatchLine own next reset (Two own next)
unfolding shown
latch_plain_lem o n e = record { same = rw e; small = (o, n) }

pub shown_one : (own reset : ℕ) → reset ≡ 1 → shown own reset ≡ 1 ∷ []
unfolding shown
shown_one own reset e = rw e refl

pub shown_own_lem : (own reset : ℕ) → 1 < reset → shown own reset ≡ own ∷ []
unfolding shown
shown_own_lem own zero h = absurd (omega arith)
shown_own_lem own (suc zero) h = absurd (omega arith)
shown_own_lem own (suc (suc n)) h = refl

pub latch_given : {own next reset third : ℕ} → own < 10000 → next < 10000 → third < 10000 → shown own reset ≡ third ∷ [] → LatchLine own next reset (Three own next third)
latch_given o n t e = record { same = rw e; small = (o, n, t) }

module _ (own : ℕ) (words : List ℕ) (at : ℕ) where
  pub word_first : get_or (drop at words) 0 0 ≡ get_or words at 0
  word_first = get_or-drop at words 0 0 ∙ ap (λ (k : ℕ). get_or words k 0) (add-zero at)

  pub word_second : get_or (drop at words) 1 0 ≡ get_or words (at + 1) 0
  word_second = get_or-drop at words 1 0

  module _ {k : LineKind} where
    pub shows_input : k ≡ Input → own < 10000 → Shows line_of k own words at (One own)
    unfolding line_of numbers coded
    shows_input e h = rw e (record { row = refl; small = h })

    pub shows_lamp : k ≡ Lamp → get_or words at 0 < 10000 → Shows line_of k own words at (One (get_or words at 0))
    unfolding line_of numbers coded
    shows_lamp e h = rw e (record { row = rw word_first; small = h })

    pub shows_latch : {line : LineNumbers} → k ≡ Latch → LatchLine own (get_or words at 0) (get_or words (at + 1) 0) line → Shows line_of k own words at line
    unfolding line_of numbers coded
    shows_latch e l = rw e (record { row = ap line_text (l.same ∙ rw (word_first, word_second)); small = l.small })

    pub shows_gate : k ≡ Gate → own < 10000 → get_or words at 0 < 10000 → get_or words (at + 1) 0 < 10000 → Shows line_of k own words at (Three own (get_or words at 0) (get_or words (at + 1) 0))
    unfolding line_of numbers coded
    shows_gate e o l r = rw e (record { row = rw (word_first, word_second); small = (o, l, r) })

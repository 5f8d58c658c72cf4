-- What the functions that list a line need: a number's size, the words' sizes and their room. Assumes nothing.
use mathlib.Core.Path.{◌≡◌, refl, ap, ◌∙◌}
use mathlib.Core.Bool.{false}
use mathlib.Core.List.{List, [], ◌∷◌, ◌++◌}
use Prim.Native.Nat.{ℕ, ◌+◌, ◌≤◌, ◌<◌}
use native.Mathlib.Omega.{arith}
use borrow.Author.Tests.{ltb-true, ltb-false}
use lib.Dec.{ltb}
use lib.ListN.{length, get_or, take, length-append}
use lib.Seq.{sets, sets-eq, length-take-le, take-append_seam}
use Rattle.three.proofs.Lists.{by_test}
use Rattle.circuit.specs.Refusal.{refusal}
use Rattle.circuit.specs.Table.{Kind, input, latch, literal, gate}
use Rattle.circuit.proofs.Refusals.{passes}
use Rattle.text.specs.declared.LineKind.{LineKind}
use Rattle.text.specs.declared.LineKind.TheVariants.{Lamp}
use Rattle.text.specs.Line.{read_line}
use Rattle.text.specs.Text.{fits, words, shown_own}
use Rattle.text.specs.KindsInCode.{coded}
use Rattle.text.proofs.Lines.{Short, split_line_lem}
use Rattle.text.proofs.Spelling.{length_words}
use Rattle.lines.specs.declared.read_line.ReadLine.{ReadLine}
use Rattle.lines.specs.LinesInCode.{numbers_of, LineFound}
use Rattle.lines.proofs.Finding.{line_length, line_got}
use Rattle.reader.specs.ReaderInCode.{WordsFit}
use Rattle.drawn.specs.Lines.{any_tests}
use Rattle.drawn.proofs.Reading.{any_numbered, words_small}
use Rattle.listing.specs.ListingInCode.{shown_by, worded, Stand, Listable}
use Rattle.listing.proofs.Judging.{lamp_shows, other_shows}

-- ---- a list stored behind what is taken

pub take_sets : (l : List ℕ) (i : ℕ) (vs : List ℕ) → i + length vs ≤ length l → take (i + length vs) (sets l i vs) ≡ take i l ++ vs
take_sets l i vs h =
    let long : length (take i l ++ vs) ≡ i + length vs = rw (length-append, length-take-le i l (omega arith)) in
    rw (sets-eq vs l i h, ← long) (take-append_seam (take i l ++ vs) _)

pub length_shown : (k : Kind) (ns : List ℕ) → length (shown_own k ns) ≡ shown_by k
unfolding shown_own shown_by
length_shown (input own) ns = refl
length_shown (latch own) ns = refl
length_shown (gate own) ns = refl
length_shown literal ns = refl

pub lamp_shown : {k : LineKind} → k ≡ Lamp → shown_by (coded k 0) ≡ 0
unfolding shown_by
lamp_shown e = ap length (lamp_shows [] e)

pub other_shown : (k : LineKind) → (k ≡ Lamp → ⊥) → shown_by (coded k 0) ≡ 1
unfolding shown_by
other_shown k f = ap length (other_shows k [] f)

-- ---- what the functions below need

-- a number of a line has at most five digits
pub own_small : {text : List ℕ} (ending t : List ℕ) (l : ReadLine) → LineFound text (read_line ending t) l → get_or (numbers_of l) 0 0 < 100000
own_small ending t l f = by_test (ltb 0 l.count)
    (λ h. first (numbers_of l) (split_line_lem ending 3 (line_got l f (ltb-true 0 l.count h))).short)
    (λ h. let z : length (numbers_of l) ≡ 0 = line_length l ∙ omega (arith, ltb-false 0 l.count h) in none (numbers_of l) z)
  where
    first : (ns : List ℕ) → Short ns → get_or ns 0 0 < 100000
    first [] s = omega arith
    first (n ∷ ns) s = s.0

    none : (ns : List ℕ) → length ns ≡ 0 → get_or ns 0 0 < 100000
    none [] z = omega arith
    none (n ∷ ns) z = absurd (omega arith)

pub words_fit : {text : List ℕ} {most a : ℕ} (k : LineKind) (ns : List ℕ) {s : Stand} → Listable text most a (worded (coded k 0)) s → 0 ≡ refusal (any_tests most (coded k 0) ns) → WordsFit (words (coded k 0) ns) s.word s.words
unfolding worded
words_fit {most = most} k ns f z = record {
  small = λ i. let h = words_small most (coded k 0) ns f.low (passes _ (any_numbered most (coded k 0) ns) z) i in omega arith;
  room = rw (length_words (coded k 0) ns) f.words_room;
}

pub no_numbers : (k : Kind) → fits k 0 ≡ false
unfolding fits
no_numbers (input own) = refl
no_numbers (latch own) = refl
no_numbers (gate own) = refl
no_numbers literal = refl

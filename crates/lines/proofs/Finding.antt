-- Laws of a line found at a position of a text, and of its numbers. Assumes nothing.
use mathlib.Core.Path.{◌≡◌, refl, sym, ◌∙◌, ap}
use mathlib.Core.List.{List, [], ◌∷◌, ◌++◌, append_assoc}
use Prim.Native.Nat.{ℕ, zero, suc, ◌+◌, ◌-◌, ◌≤◌, ◌<◌}
use native.Mathlib.Numerals.{add-one}
use native.Mathlib.Omega.{arith}
use native.Mathlib.Nat.{sub-zero, min-le_left, not-suc-le-zero}
use borrow.Author.Tests.{ltb-true, ltb-false}
use lib.Dec.{ltb}
use lib.ListN.{length, get_or, set, take, length-set, length-take, get_or-eq_default}
use lib.Seq.{take-suc-set, get_or-take, length-take-le}
use Rattle.text.specs.Part.{Part, got, ill}
use Rattle.text.specs.Line.{prepend, split_line}
use Rattle.std.specs.Prelude.{Option, Some, None}
use Rattle.lines.specs.ShapeInCode.{most_numbers, Shape}
use Rattle.lines.specs.LinesInCode.{from, line_part, line_end, FoundInLine, counted, numbers_of, LineFound}
use Rattle.lines.specs.declared.Number.{Number}
use Rattle.lines.specs.declared.read_line.ReadLine.{ReadLine}
use Rattle.lines.specs.declared.InLine.{InLine}
use Rattle.lines.specs.declared.InLine.TheVariants.{Last, More}
use Rattle.three.proofs.Lists.{by_test}

-- ---- a line: k numbers are read, and the next one stands at `next`

-- these numbers in front of the numbers read
unfoldable pub prepend_all : List ℕ → Part (List ℕ) → Part (List ℕ)
prepend_all ns (got ms r) = got (ns ++ ms) r
prepend_all ns ill = ill

prepend_all_none : (p : Part (List ℕ)) → prepend_all [] p ≡ p
unfolding prepend_all
prepend_all_none (got ms r) = refl
prepend_all_none ill = refl

prepend_all_prepend : (ns : List ℕ) (n : ℕ) (p : Part (List ℕ)) → prepend_all ns (prepend n p) ≡ prepend_all (ns ++ (n ∷ [])) p
unfolding prepend_all prepend
prepend_all_prepend ns n (got ms r) = ap (λ l. got l r) (sym (append_assoc ns (n ∷ []) ms))
prepend_all_prepend ns n ill = refl

module _ (ending text : List ℕ) (at most : ℕ) where
  pub record Pieces (numbers : List ℕ) (next k : ℕ) : Type 0 where
    pub few : k ≤ most
    pub most_fits : most ≤ most_numbers
    pub long : length numbers ≡ most_numbers
    pub within : next ≤ length text
    pub same : split_line ending most (from text at) ≡ prepend_all (take k numbers) (split_line ending (most - k) (from text next))

  pub pieces_first : (numbers : List ℕ) → most ≤ most_numbers → length numbers ≡ most_numbers → at ≤ length text → Pieces numbers at 0
  pieces_first numbers m l h = record { few = omega arith; most_fits = m; long = l; within = h; same = rw sub-zero (sym (prepend_all_none _)) }

  module _ {numbers : List ℕ} {next k : ℕ} (s : Pieces numbers next k) where
    -- no number is the last
    pub pieces_end : most ≤ k → split_line ending most (from text at) ≡ ill
    unfolding split_line prepend_all
    pieces_end e = s.same ∙ let z : most - k ≡ 0 = omega arith in rw z

    module _ (h : k < most) {n : Option InLine} (found : FoundInLine ending text (from text next) n) where
      here : split_line ending (most - k) (from text next) ≡ line_part ending text (most - (k + 1)) n
      here = let z : most - k ≡ suc (most - (k + 1)) = omega arith in rw z (found.reads _)

      pub pieces_ill : n ≡ None → split_line ending most (from text at) ≡ ill
      unfolding line_part prepend_all
      pieces_ill e = s.same ∙ rw (here, e)

      pub pieces_last : {v : Number} → n ≡ Some (Last v) → {shape : Shape (k + 1) (set numbers k v.value)}
          → LineFound text (split_line ending most (from text at)) (record { count = k + 1; numbers = set numbers k v.value; next = v.next; shape = shape })
      unfolding line_part line_end prepend_all counted
      pieces_last {v} e = record {
        reads = s.same ∙ rw (here, e, add-one, take-suc-set numbers k v.value (omega (arith, s.long, s.most_fits)));
        within = rw e at found.within;
      }

      pub pieces_more : {v : Number} → n ≡ Some (More v) → Pieces (set numbers k v.value) v.next (k + 1)
      unfolding line_part line_end
      pieces_more {v} e = record {
        few = omega arith;
        most_fits = s.most_fits;
        long = length-set numbers k v.value ∙ s.long;
        within = rw e at found.within;
        same = s.same ∙ rw (here, e, add-one, take-suc-set numbers k v.value (omega (arith, s.long, s.most_fits))) (prepend_all_prepend _ _ _);
      }

-- no line
pub found_none : (text numbers : List ℕ) (at : ℕ) (shape : Shape 0 numbers) → at ≤ length text → LineFound text ill (record { count = 0; numbers = numbers; next = at; shape = shape })
unfolding counted
found_none text numbers at shape h = record { reads = refl; within = h }

-- ---- a line's numbers

pub line_length : (l : ReadLine) → length (numbers_of l) ≡ l.count
unfolding numbers_of
line_length l = length-take-le l.count l.numbers (omega (arith, l.shape.few, l.shape.long))

pub entry_absent : (l : ReadLine) (i : ℕ) → l.count ≤ i → 0 ≡ get_or (numbers_of l) i 0
unfolding numbers_of
entry_absent l i h = sym (get_or-eq_default (numbers_of l) 0 (rw length-take (omega (arith, min-le_left l.count (length l.numbers)))))

pub entry_given : (l : ReadLine) (i : ℕ) → i < l.count → get_or l.numbers i 0 ≡ get_or (numbers_of l) i 0
unfolding numbers_of
entry_given l i h = sym (get_or-take l.count l.numbers i 0 h)

-- ---- a line found

pub line_got : {text : List ℕ} {p : Part (List ℕ)} (l : ReadLine) → LineFound text p l → 0 < l.count → p ≡ got (numbers_of l) (from text l.next)
unfolding counted numbers_of
line_got {text} l f h = f.reads ∙ go l.count h
  where
    go : (n : ℕ) → 0 < n → counted n l.numbers (from text l.next) ≡ got (take n l.numbers) (from text l.next)
    go zero q = absurd (not-suc-le-zero q)
    go (suc n) q = refl

pub line_ill_formed : {text : List ℕ} {p : Part (List ℕ)} (l : ReadLine) → LineFound text p l → l.count ≡ 0 → p ≡ ill
unfolding counted
line_ill_formed l f e = f.reads ∙ rw e

-- the line's numbers and position, where it is read
pub line_read : {text : List ℕ} {p : Part (List ℕ)} {ns rest : List ℕ} (l : ReadLine) → LineFound text p l → p ≡ got ns rest → (numbers_of l ≡ ns) × (from text l.next ≡ rest)
line_read l f e = by_test (ltb 0 l.count)
    (λ h. let g = line_got l f (ltb-true 0 l.count h) in (cc, cc))
    (λ h. let z : l.count ≡ 0 = omega (arith, ltb-false 0 l.count h) in let g = line_ill_formed l f z in absurd (let z : ◌≡◌ {A = ℕ} 0 1 = cc in omega arith))

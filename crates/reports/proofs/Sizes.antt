-- Laws of sizes at positions of a stream: each one, and what many make together. Assumes nothing.
use mathlib.Core.Path.{◌≡◌, refl, ap, ◌∙◌}
use mathlib.Core.List.{List, [], ◌∷◌}
use Prim.Native.Nat.{ℕ, suc, ◌+◌, ◌*◌, ◌-◌, ◌≤◌, ◌<◌}
use native.Mathlib.Nat.{add-zero, sub-zero}
use native.Mathlib.Omega.{arith}
use lib.ListN.{length, get_or}
use Rattle.text.specs.Part.{Part, got, ill}
use Rattle.text.specs.Line.{newline, prepend, split_line}
use Rattle.text.proofs.Lines.{Short, split_line_lem}
use Rattle.std.specs.Prelude.{Option, Some, None}
use Rattle.lines.specs.declared.Number.{Number}
use Rattle.lines.specs.declared.read_line.ReadLine.{ReadLine}
use Rattle.lines.specs.LinesInCode.{from, numbers_of, LineFound, number_part, number_end, NumberFound}
use Rattle.lines.proofs.Finding.{line_got, line_ill_formed}
use Rattle.reports.specs.Reports.{read_size, read_sizes, total}
use Rattle.reports.specs.ReportsInCode.{value_of, SizeFound, summed}

-- ---- a size

first_short : (ns : List ℕ) → Short ns → get_or ns 0 0 < 100000
first_short [] s = omega arith
first_short (n ∷ ns) s = s.0

module _ (stream t : List ℕ) (l : ReadLine) (found : LineFound stream (split_line newline 1 t) l) where
  pub size_none : l.count ≡ 0 → SizeFound stream t None
  unfolding read_size number_part number_end value_of
  size_none z = let e = line_ill_formed l found z in record { found = record { reads = rw (read_size, e); within = omega arith }; short = omega arith }

  pub size_some : (l.count ≡ 0 → ⊥) → {n : ℕ} → n ≡ get_or (numbers_of l) 0 0 → SizeFound stream t (Some (record { value = n; next = l.next }))
  unfolding read_size number_part number_end value_of
  size_some h {n} e =
      let g = line_got l found (omega arith) in
      record { found = record { reads = rw (read_size, g, e); within = found.within }; short = rw e (first_short (numbers_of l) (split_line_lem newline 1 g).short) }

pub size_bounds : {stream t : List ℕ} {n : Option Number} → SizeFound stream t n → {v : Number} → n ≡ Some v → (v.next ≤ length stream) × (v.value < 100000)
unfolding number_end value_of
size_bounds found e = (rw e at found.found.within, rw e at found.short)

-- ---- many, as the loop goes through them: so much was added, and what is left is added to it

unfoldable pub raised : ℕ → Part ℕ → Part ℕ
raised m (got n rest) = got (m + n) rest
raised m ill = ill

raised_none : (p : Part ℕ) → p ≡ raised 0 p
unfolding raised
raised_none (got n rest) = ap (λ (k : ℕ). got k rest) (omega arith)
raised_none ill = refl

raised_on : (m n : ℕ) (p : Part ℕ) → raised m (raised n p) ≡ raised (m + n) p
unfolding raised
raised_on m n (got k rest) = ap (λ (j : ℕ). got j rest) (omega arith)
raised_on m n ill = refl

pub summed_prepend : (n : ℕ) (p : Part (List ℕ)) → summed (prepend n p) ≡ raised n (summed p)
unfolding summed prepend raised total
summed_prepend n (got ns rest) = refl
summed_prepend n ill = refl

-- one size, then the others
pub sizes_on : (texts : ℕ) (t : List ℕ) {n : ℕ} {rest : List ℕ} → read_size t ≡ got n rest → read_sizes (suc texts) t ≡ prepend n (read_sizes texts rest)
unfolding read_sizes
sizes_on texts t e = rw (read_sizes, e)

pub sizes_ill : (texts : ℕ) (t : List ℕ) → read_size t ≡ ill → read_sizes (suc texts) t ≡ ill
unfolding read_sizes
sizes_ill texts t e = rw (read_sizes, e)

module _ (stream : List ℕ) (at texts : ℕ) where
  abbrev whole : Part ℕ
  whole = summed (read_sizes texts (from stream at))

  pub record Added (added next k : ℕ) : Type 0 where
    pub same : whole ≡ raised added (summed (read_sizes (texts - k) (from stream next)))
    pub within : next ≤ length stream
    pub few : added ≤ 100000 * k

  pub added_first : at ≤ length stream → Added 0 at 0
  added_first h = record { same = rw sub-zero (raised_none _); within = h; few = omega arith }

  module _ {added next k : ℕ} (s : Added added next k) where
    pub added_last : texts ≤ k → NumberFound stream whole (Some (record { value = added; next = next }))
    unfolding read_sizes summed raised total number_part number_end
    added_last h = let z : texts - k ≡ 0 = omega arith in record { reads = s.same ∙ rw (z, add-zero); within = s.within }

    module _ (h : k < texts) {n : Option Number} (found : SizeFound stream (from stream next) n) where
      turn : texts - k ≡ suc (texts - (k + 1))
      turn = omega arith

      pub added_ill : n ≡ None → NumberFound stream whole None
      unfolding summed raised number_part number_end
      added_ill e =
          let no : read_size (from stream next) ≡ ill = rw e at found.found.reads in
          record { reads = s.same ∙ rw (turn, sizes_ill (texts - (k + 1)) (from stream next) no); within = omega arith }

      pub added_next : {v : Number} → n ≡ Some v → Added (added + v.value) v.next (k + 1)
      unfolding number_part number_end value_of
      added_next {v} e =
          let is : read_size (from stream next) ≡ got v.value (from stream v.next) = rw e at found.found.reads in
          let short : v.value < 100000 = rw e at found.short in
          record {
            same = s.same ∙ rw (turn, sizes_on (texts - (k + 1)) (from stream next) is, summed_prepend v.value (read_sizes (texts - (k + 1)) (from stream v.next))) (raised_on added v.value _);
            within = rw e at found.found.within;
            few = omega (arith, short, s.few);
          }

-- Laws of the written first line: the four bytes, M, and the counts up to the last that is written. Assumes nothing.
use mathlib.Core.Path.{◌≡◌, refl, sym, ap, ◌∙◌}
use mathlib.Core.List.{List, [], ◌∷◌, ◌++◌, append_assoc}
use Prim.Native.Nat.{ℕ, zero, suc, ◌+◌, ◌≤◌}
use native.Mathlib.Omega.{arith}
use lib.ListN.{length, length-append, get_or, set, length-set, drop, length-drop}
use lib.Seq.{sets}
use Rattle.three.specs.Lists.{tabulate, over}
use Rattle.circuit.specs.declared.Counts.{Counts}
use Rattle.circuit.specs.RulesInCode.{Bounded}
use Rattle.circuit.specs.Table.{variables}
use Rattle.text.specs.Decimal.{decimal}
use Rattle.text.specs.Line.{line_text, ended_line}
use Rattle.text.specs.Text.{further_numbers, head_numbers}
use Rattle.text.proofs.Spelling.{listed}
use Rattle.text.proofs.Stores.{sets_front}
use Rattle.putting.specs.PutInCode.{Put}
use Rattle.writer.specs.declared.LineNumbers.{LineNumbers}
use Rattle.writer.specs.declared.LineNumbers.TheVariants.{One, Two, Three}
use Rattle.writer.specs.WriterInCode.{line_numbers, last_numbers, count_numbers, LastCounts}
use Rattle.writer.proofs.WrittenLine.{word}

-- ---- the counts behind A

further_two : (b c : ℕ) → (c ≡ 0 → ⊥) → b ∷ c ∷ [] ≡ further_numbers b c
unfolding further_numbers
further_two b zero h = absurd (h refl)
further_two zero (suc c) h = refl
further_two (suc b) (suc c) h = refl

further_one : (b c : ℕ) → c ≡ 0 → (b ≡ 0 → ⊥) → b ∷ [] ≡ further_numbers b c
unfolding further_numbers
further_one b (suc c) z h = absurd (omega arith)
further_one zero zero z h = absurd (h refl)
further_one (suc b) zero z h = refl

module _ (c : Counts) where
  pub last_three : Bounded c → (c.constraints ≡ 0 → ⊥) → LastCounts c (Three c.gates c.bads c.constraints)
  unfolding last_numbers
  last_three b h = record { text = rw (further_two _ _ h); small = omega arith }

  pub last_two : Bounded c → c.constraints ≡ 0 → (c.bads ≡ 0 → ⊥) → LastCounts c (Two c.gates c.bads)
  unfolding last_numbers
  last_two b z h = record { text = rw (further_one _ _ z h); small = omega arith }

  pub last_one : Bounded c → c.constraints ≡ 0 → c.bads ≡ 0 → LastCounts c (One c.gates)
  unfolding last_numbers further_numbers
  last_one b z h = record { text = rw (z, h); small = omega arith }

  pub last_length : {line : LineNumbers} → LastCounts c line → length (line_text (line_numbers line)) ≡ length (line_text (last_numbers c))
  last_length l = ap length l.text

  -- ---- the whole line

  pub counts_text : line_text (count_numbers c) ≡ ((word c.inputs 32 ++ word c.latches 32) ++ word c.lamps 32) ++ line_text (last_numbers c)
  unfolding ended_line count_numbers last_numbers
  counts_text = simp append_assoc

  pub counts_length : length (line_text (count_numbers c)) ≡ 3 + length (decimal c.inputs) + length (decimal c.latches) + length (decimal c.lamps) + length (line_text (last_numbers c))
  counts_length = rw counts_text (simp length-append (omega arith))

  pub head_text : (opening : List ℕ) → opening ++ line_text (head_numbers c) ≡ (opening ++ word (variables c) 32) ++ line_text (count_numbers c)
  unfolding ended_line head_numbers count_numbers last_numbers
  head_text opening = simp append_assoc

  pub head_length : length (line_text (head_numbers c)) ≡ 1 + length (decimal (variables c)) + length (line_text (count_numbers c))
  head_length = ap length (head_text []) ∙ simp length-append (omega arith)

-- the four bytes in front of it, one by one
pub four_put : (d m : List ℕ) → length m ≡ 4 → Put d 0 m (set (set (set (set d 0 (get_or m 0 0)) 1 (get_or m 1 0)) 2 (get_or m 2 0)) 3 (get_or m 3 0)) 4
unfolding tabulate
four_put d m h = record { same = ap (λ (l : List ℕ). sets d 0 l) (sym (listed 4 m h)); after = omega arith; long = simp length-set }

-- the same, copied as a whole
pub magic_put : (d m : List ℕ) → length m ≡ 4 → 4 ≤ length d → Put d 0 m (m ++ drop 4 d) 4
unfolding over
magic_put d m h k = record { same = sym (sets_front d m (omega arith) ∙ rw h); after = omega arith; long = simp (length-append, length-drop) (omega arith) }

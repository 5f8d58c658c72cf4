-- Laws of what is written for one kind, as a loop goes through it: what is left is the whole without the rows passed. Assumes nothing.
use mathlib.Core.Path.{◌≡◌, refl, sym, ap, ◌∙◌}
use mathlib.Core.List.{List, [], ◌++◌}
use Prim.Native.Nat.{ℕ, suc, ◌+◌, ◌*◌, ◌-◌, ◌≤◌, ◌<◌}
use native.Mathlib.Nat.{add-zero, mul-zero, zero-mul, sub-zero, suc-mul, mul_comm, mul-le-mul_right}
use native.Mathlib.Omega.{arith}
use lib.ListN.{length, length-append, drop}
use lib.Seq.{sets, drop-drop}
use Rattle.circuit.specs.Table.{Kind, several, width}
use Rattle.text.specs.Text.{write_rows}
use Rattle.text.specs.declared.LineKind.{LineKind}
use Rattle.text.specs.KindsInCode.{coded}
use Rattle.putting.specs.PutInCode.{Put}
use Rattle.writer.specs.WriterInCode.{RowThere, run, Lines}
use Rattle.text.proofs.Stores.{sets_append}
use Rattle.text.proofs.Coding.{width_alike, width_gate}

module _ (each : Kind → List ℕ → List ℕ) (kind : LineKind) (words : List ℕ) where
  run_none : (own at : ℕ) → run each kind own 0 words at ≡ []
  unfolding run several write_rows
  run_none own at = refl

  run_more : (own n at : ℕ) → run each kind own (suc n) words at ≡ each (coded kind own) (drop at words) ++ run each kind (own + 2) n words (at + width (coded kind own))
  unfolding run several write_rows
  run_more own n at = rw drop-drop

-- `w` is how many words a row has
module _ (kind : LineKind) (own count : ℕ) (words : List ℕ) (at w : ℕ) where
  wide_there : w ≡ width (coded kind 0) → (i : ℕ) → w ≡ width (coded kind (own + 2 * i))
  wide_there wide i = wide ∙ sym (width_alike kind (own + 2 * i))

  -- the words of the row at number i, and of the next
  within : (i : ℕ) → i < count → at + i * w + w ≤ at + count * w
  within i h = omega (arith, suc-mul i w, mul-le-mul_right w h)

  pub row_there : w ≡ width (coded kind 0) → Lines (record { kind = kind; own = own; count = count; at = at }) words → (i : ℕ) → i < count → RowThere kind (own + 2 * i) words (at + i * w)
  row_there wide s i h = record {
    literal = omega (arith, s.literals);
    there = rw (← (wide_there wide i)) (omega (arith, within i h, rw (← wide) at s.there));
    small = λ k p. rw (← wide) at s.small k (omega (arith, within i h, wide_there wide i));
    below = λ e. let two : w ≡ 2 = wide ∙ width_gate 0 e in rw (two, mul_comm i 2) (s.below e i h);
  }

  module _ (each : Kind → List ℕ → List ℕ) (start : ℕ) where
    abbrev pub Row : ℕ → List ℕ
    Row i = each (coded kind (own + 2 * i)) (drop (at + i * w) words)

    abbrev pub Whole : List ℕ
    Whole = run each kind own count words at

    -- the rows from number i on
    abbrev Rest : ℕ → List ℕ
    Rest i = run each kind (own + 2 * i) (count - i) words (at + i * w)

    rest_whole : Rest 0 ≡ Whole
    rest_whole = simp (mul-zero, zero-mul, add-zero, sub-zero)

    rest_more : w ≡ width (coded kind 0) → (i : ℕ) → i < count → Rest i ≡ Row i ++ Rest (i + 1)
    rest_more wide i h =
        let left : count - i ≡ suc (count - (i + 1)) = omega arith in
        let next : own + 2 * i + 2 ≡ own + 2 * (i + 1) = omega arith in
        let behind : at + i * w + width (coded kind (own + 2 * i)) ≡ at + (i + 1) * w = omega (arith, wide_there wide i, suc-mul i w) in
        rw (left, ← next, ← behind) (run_more each kind words (own + 2 * i) (count - (i + 1)) (at + i * w))

    rest_none : (i : ℕ) → count ≤ i → Rest i ≡ []
    rest_none i h =
        let none : count - i ≡ 0 = omega arith in
        rw none (run_none each kind words (own + 2 * i) (at + i * w))

    -- `end` is the position behind the first i rows
    pub record RowsLeft (end i : ℕ) : Type 0 where
      pub within : i ≤ count
      pub after : end + length (Rest i) ≡ start + length Whole

    pub rows_first : RowsLeft start 0
    rows_first = record { within = omega arith; after = rw rest_whole }

    module _ {end i : ℕ} (s : RowsLeft end i) where
      pub row_room : w ≡ width (coded kind 0) → i < count → end + length (Row i) ≤ start + length Whole
      row_room wide h = omega (arith, s.after, simp length-append at (ap length (rest_more wide i h)))

      pub rows_next : w ≡ width (coded kind 0) → i < count → {to : ℕ} → to ≡ end + length (Row i) → RowsLeft to (i + 1)
      rows_next wide h e = record { within = omega arith; after = omega (arith, s.after, simp length-append at (ap length (rest_more wide i h))) }

      pub rows_last : count ≤ i → end ≡ start + length Whole
      rows_last h = omega (arith, s.after, ap length (rest_none i h))

    -- the same for a buffer: what is left to put makes it the whole
    pub record PutLeft (text₀ text : List ℕ) (end i : ℕ) : Type 0 where
      pub rows : RowsLeft end i
      pub long : length text ≡ length text₀
      pub same : sets text end (Rest i) ≡ sets text₀ start Whole

    pub left_first : (text : List ℕ) → PutLeft text text start 0
    left_first text = record { rows = rows_first; long = refl; same = rw rest_whole }

    module _ {text₀ text : List ℕ} {end i : ℕ} (s : PutLeft text₀ text end i) where
      pub left_next : w ≡ width (coded kind 0) → i < count → {text' : List ℕ} {to : ℕ} → Put text end (Row i) text' to → PutLeft text₀ text' to (i + 1)
      left_next wide h p = record {
        rows = rows_next s.rows wide h p.after;
        long = p.long ∙ s.long;
        same = rw (p.same, p.after) (sym (sets_append text end (Row i) (Rest (i + 1))) ∙ ap (λ (t : List ℕ). sets text end t) (sym (rest_more wide i h)) ∙ s.same);
      }

      pub left_last : count ≤ i → Put text₀ start Whole text end
      left_last h = record { same = rw (rest_none i h) at s.same; after = rows_last s.rows h; long = s.long }

-- Laws of the report's rows: the line of a lamp, of a bad state and of a latch, and a line for each field in turn. Assumes nothing.
use mathlib.Core.Path.{◌≡◌, refl, sym, ◌∙◌}
use mathlib.Core.List.{List, [], ◌++◌}
use Prim.Native.Nat.{ℕ, ◌+◌, ◌*◌, ◌≤◌, ◌<◌}
use native.Mathlib.Omega.{arith}
use native.Mathlib.Nat.{add-zero}
use native.Mathlib.Numerals.{add-one}
use lib.ListN.{length, drop, length-drop, drop_of_length-le}
use lib.Seq.{drop-cons, get_or-drop}
use Rattle.three.specs.Value.{Three, unknown, low, high, decode}
use Rattle.three.specs.Cube.{Cube}
use Rattle.three.specs.Record.{pair_at, unpack}
use Rattle.three.proofs.Lists.{get_or_tabulate}
use Rattle.three.proofs.Pack.{length_unpack}
use Rattle.putting.specs.PutInCode.{Put}
use Rattle.text.specs.Bench.{bytes}
use Rattle.putting.proofs.Putting.{put_then}
use Rattle.rows.specs.declared.Row.{Row}
use Rattle.rows.specs.Rows.{item, said, verdict_said, row, rows}

-- no word of a row has more than 8 bytes
said_verdict : (v : Three) → length (verdict_said v) ≤ 8
unfolding said bytes
said_verdict low = omega arith
said_verdict high = omega arith
said_verdict unknown = omega arith

said_latch : (v : Three) → length (said (bytes " 0/") (bytes " 1/") (bytes " -/") v) ≤ 8
unfolding said bytes
said_latch low = omega arith
said_latch high = omega arith
said_latch unknown = omega arith

-- a name with its number, and behind it a verdict
pub verdict_put : {d e f : List ℕ} {p q r : ℕ} (name : List ℕ) (i field : ℕ) → Put d p (item name i) e q × (q ≤ p + length name + 20) → Put e q (verdict_said (decode field)) f r
    → Put d p (item name i ++ verdict_said (decode field)) f r × (r ≤ p + length name + 28)
verdict_put name i field a b = (put_then a.0 b, omega (arith, a.1, b.after, said_verdict (decode field)))

module _ {d f : List ℕ} {p r : ℕ} {k : Row} (i field : ℕ) where
  pub lamp_row : k ≡ Row.Lamp → Put d p (item (bytes "lamp ") i ++ verdict_said (decode field)) f r × (r ≤ p + length (bytes "lamp ") + 28)
      → Put d p (row k i (decode field)) f r × (r ≤ p + 34)
  unfolding row bytes
  lamp_row h a = (rw h a.0, omega (arith, a.1))

  pub bad_row : k ≡ Row.Bad → Put d p (item (bytes "bad ") i ++ verdict_said (decode field)) f r × (r ≤ p + length (bytes "bad ") + 28)
      → Put d p (row k i (decode field)) f r × (r ≤ p + 34)
  unfolding row bytes
  bad_row h a = (rw h a.0, omega (arith, a.1))

  pub latch_row : {e : List ℕ} {q : ℕ} → k ≡ Row.Latch → Put d p (item (bytes "latch ") i) e q × (q ≤ p + length (bytes "latch ") + 20)
      → Put e q (said (bytes " 0/") (bytes " 1/") (bytes " -/") (decode field)) f r → Put d p (row k i (decode field)) f r × (r ≤ p + 34)
  unfolding row bytes
  latch_row h a b = (rw h (put_then a.0 b), omega (arith, a.1, b.after, said_latch (decode field)))

-- ---- a line for each field: the rows that are left make the whole

module _ (k : Row) (bytes₀ : List ℕ) (first count : ℕ) (d : List ℕ) (start : ℕ) where
  abbrev told : Cube
  told = drop first (unpack (first + count) bytes₀)

  told_sized : length told ≡ count
  told_sized = simp length-drop (omega (arith, length_unpack (first + count) bytes₀))

  abbrev left : ℕ → List ℕ
  left i = rows k i (drop i told)

  pub record RowsLeft (e : List ℕ) (end i : ℕ) : Type 0 where
    pub within : i ≤ count
    pub long : length e ≡ length d
    pub place : end ≤ start + 34 * i
    pub rest : {f : List ℕ} {q : ℕ} → Put e end (left i) f q → Put d start (left 0) f q

  pub rows_first : RowsLeft d start 0
  rows_first = record { within = omega arith; long = refl; place = omega arith; rest = λ a. a }

  -- the row that the loop is at, and those behind it
  left_more : (i : ℕ) → i < count → left i ≡ row k i (decode (pair_at bytes₀ (first + i))) ++ left (i + 1)
  unfolding rows unpack
  left_more i h =
      rw (add-one, drop-cons told i unknown (omega (arith, told_sized)), get_or-drop, get_or_tabulate (first + count) (λ j. decode (pair_at bytes₀ j)) (first + i) unknown (omega arith))

  pub rows_next : {e f : List ℕ} {end q i field : ℕ} → RowsLeft e end i → i < count → field ≡ pair_at bytes₀ (first + i)
      → Put e end (row k i (decode field)) f q × (q ≤ end + 34) → RowsLeft f q (i + 1)
  rows_next {i = i} s h v a = record {
    within = omega arith;
    long = a.0.long ∙ s.long;
    place = omega (arith, s.place, a.1);
    rest = λ b. s.rest (rw (left_more i h, ← v) (put_then a.0 b));
  }

  pub rows_last : {e : List ℕ} {end i : ℕ} → RowsLeft e end i → count ≤ i → Put d start (left 0) e end × (end ≤ start + 34 * count)
  unfolding rows
  rows_last {e} {end} {i} s h =
      let none : drop i told ≡ [] = drop_of_length-le told {i = i} (omega (arith, told_sized)) in
      (s.rest (rw none (record { same = refl; after = sym (add-zero end); long = refl })), omega (arith, s.within, s.place))

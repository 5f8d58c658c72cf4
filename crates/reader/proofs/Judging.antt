-- The reader's tests, in the order of the refusals: what each return says of a line of each kind. Assumes nothing.
use mathlib.Core.Path.{◌≡◌, refl}
use mathlib.Core.Bool.{true, false}
use mathlib.Core.List.{[], ◌∷◌}
use Prim.Native.Nat.{ℕ, ◌≤◌, ◌<◌}
use native.Mathlib.Omega.{arith}
use borrow.Author.Tests.{eq-eqb, ne_eqb, le-leb, lt-leb, lt-ltb, le-ltb}
use lib.Dec.{leb, ltb}
use lib.ListN.{get_or}
use Rattle.circuit.specs.Refusal.{◌or◌, refusal}
use Rattle.circuit.specs.Table.{Kind, input, latch, literal, gate, row_tests, literal_tests, operand_tests}
use Rattle.circuit.proofs.Refusals.{stops, past, none}
use Rattle.lines.specs.declared.read_line.ReadLine.{ReadLine}
use Rattle.text.specs.Text.{fits, owns, reset_word, words, line_tests}
use Rattle.lines.specs.LinesInCode.{numbers_of}
use Rattle.lines.proofs.Finding.{line_length}

-- number i of a line
abbrev pub nth : ReadLine → ℕ → ℕ
nth l i = get_or (numbers_of l) i 0

module _ (most : ℕ) (k : Kind) (l : ReadLine) where
  pub line_count : fits k l.count ≡ false → 4 ≡ refusal (line_tests most k (numbers_of l))
  unfolding line_tests
  line_count e = stops _ _ (rw (line_length l) e)

  module _ (e : fits k l.count ≡ true) where
    line_own : owns k (numbers_of l) ≡ false → 5 ≡ refusal (line_tests most k (numbers_of l))
    unfolding line_tests
    line_own f = past _ _ (rw (line_length l) e) (stops _ _ f)

    line_words : {n : ℕ} → owns k (numbers_of l) ≡ true → n ≡ refusal (row_tests most k (words k (numbers_of l))) → n ≡ refusal (line_tests most k (numbers_of l))
    unfolding line_tests
    line_words f h = past _ _ (rw (line_length l) e) (past _ _ f h)

module _ (most own : ℕ) (l : ReadLine) where
  pub input_count : (l.count ≡ 1 → ⊥) → 4 ≡ refusal (line_tests most (input own) (numbers_of l))
  unfolding fits
  input_count h = line_count most (input own) l (ne_eqb _ _ h)

  pub input_own : l.count ≡ 1 → (nth l 0 ≡ own → ⊥) → 5 ≡ refusal (line_tests most (input own) (numbers_of l))
  unfolding fits owns
  input_own h p = line_own most (input own) l (eq-eqb _ _ h) (ne_eqb _ _ p)

  pub input_passes : l.count ≡ 1 → nth l 0 ≡ own → 0 ≡ refusal (line_tests most (input own) (numbers_of l))
  unfolding fits owns row_tests literal_tests operand_tests
  input_passes h p = line_words most (input own) l (eq-eqb _ _ h) (eq-eqb _ _ p) none

module _ (most : ℕ) (l : ReadLine) where
  pub lamp_count : (l.count ≡ 1 → ⊥) → 4 ≡ refusal (line_tests most literal (numbers_of l))
  unfolding fits
  lamp_count h = line_count most literal l (ne_eqb _ _ h)

  pub lamp_over : l.count ≡ 1 → most < nth l 0 → 6 ≡ refusal (line_tests most literal (numbers_of l))
  unfolding fits owns words row_tests literal_tests operand_tests
  lamp_over h p = line_words most literal l (eq-eqb _ _ h) refl (stops _ _ (lt-leb _ _ p))

  pub lamp_passes : l.count ≡ 1 → nth l 0 ≤ most → 0 ≡ refusal (line_tests most literal (numbers_of l))
  unfolding fits owns words row_tests literal_tests operand_tests
  lamp_passes h p = line_words most literal l (eq-eqb _ _ h) refl (past _ _ (le-leb _ _ p) none)

module _ (most own : ℕ) (l : ReadLine) where
  pub latch_few : l.count < 2 → 4 ≡ refusal (line_tests most (latch own) (numbers_of l))
  unfolding fits
  latch_few h = line_count most (latch own) l (rw (lt-leb 2 l.count h))

  pub latch_many : 3 < l.count → 4 ≡ refusal (line_tests most (latch own) (numbers_of l))
  unfolding fits
  latch_many h = line_count most (latch own) l (rw (le-leb 2 l.count (omega arith), lt-leb l.count 3 h))

  module _ (p : 2 ≤ l.count) (q : l.count ≤ 3) where
    latch_fits : fits (latch own) l.count ≡ true
    unfolding fits
    latch_fits = rw (le-leb 2 l.count p, le-leb l.count 3 q)

    pub latch_own : (nth l 0 ≡ own → ⊥) → 5 ≡ refusal (line_tests most (latch own) (numbers_of l))
    unfolding owns
    latch_own h = line_own most (latch own) l latch_fits (ne_eqb _ _ h)

    module _ (o : nth l 0 ≡ own) {r : ℕ} (e : r ≡ reset_word (nth l 0) (nth l 2)) where
      latch_words_lem : {n : ℕ} → n ≡ refusal (leb (nth l 1) most or 6 ∷ leb r 2 or 8 ∷ []) → n ≡ refusal (line_tests most (latch own) (numbers_of l))
      unfolding owns words row_tests literal_tests operand_tests
      latch_words_lem h = line_words most (latch own) l latch_fits (eq-eqb _ _ o) (rw e at h)

      pub latch_reset : nth l 1 ≤ most → 2 < r → 8 ≡ refusal (line_tests most (latch own) (numbers_of l))
      latch_reset g h = latch_words_lem (past _ _ (le-leb _ _ g) (stops _ _ (lt-leb _ _ h)))

      pub latch_passes : nth l 1 ≤ most → r ≤ 2 → 0 ≡ refusal (line_tests most (latch own) (numbers_of l))
      latch_passes g h = latch_words_lem (past _ _ (le-leb _ _ g) (past _ _ (le-leb _ _ h) none))

    pub latch_over : nth l 0 ≡ own → most < nth l 1 → 6 ≡ refusal (line_tests most (latch own) (numbers_of l))
    latch_over o h = latch_words_lem o refl (stops _ _ (lt-leb _ _ h))

module _ (most own : ℕ) (l : ReadLine) where
  pub gate_count : (l.count ≡ 3 → ⊥) → 4 ≡ refusal (line_tests most (gate own) (numbers_of l))
  unfolding fits
  gate_count h = line_count most (gate own) l (ne_eqb _ _ h)

  module _ (p : l.count ≡ 3) where
    pub gate_own : (nth l 0 ≡ own → ⊥) → 5 ≡ refusal (line_tests most (gate own) (numbers_of l))
    unfolding fits owns
    gate_own h = line_own most (gate own) l (eq-eqb _ _ p) (ne_eqb _ _ h)

    module _ (o : nth l 0 ≡ own) where
      gate_words_lem : {n : ℕ} → n ≡ refusal (leb (nth l 1) most or 6 ∷ leb (nth l 2) most or 6 ∷ ltb (nth l 1) own or 7 ∷ ltb (nth l 2) own or 7 ∷ []) → n ≡ refusal (line_tests most (gate own) (numbers_of l))
      unfolding fits owns words row_tests literal_tests operand_tests
      gate_words_lem h = line_words most (gate own) l (eq-eqb _ _ p) (eq-eqb _ _ o) h

      pub gate_left_over : most < nth l 1 → 6 ≡ refusal (line_tests most (gate own) (numbers_of l))
      gate_left_over h = gate_words_lem (stops _ _ (lt-leb _ _ h))

      module _ (g : nth l 1 ≤ most) where
        pub gate_right_over : most < nth l 2 → 6 ≡ refusal (line_tests most (gate own) (numbers_of l))
        gate_right_over h = gate_words_lem (past _ _ (le-leb _ _ g) (stops _ _ (lt-leb _ _ h)))

        module _ (h : nth l 2 ≤ most) where
          gate_order_lem : {n : ℕ} → n ≡ refusal (ltb (nth l 1) own or 7 ∷ ltb (nth l 2) own or 7 ∷ []) → n ≡ refusal (line_tests most (gate own) (numbers_of l))
          gate_order_lem r = gate_words_lem (past _ _ (le-leb _ _ g) (past _ _ (le-leb _ _ h) r))

          pub gate_left : own ≤ nth l 1 → 7 ≡ refusal (line_tests most (gate own) (numbers_of l))
          gate_left r = gate_order_lem (stops _ _ (le-ltb _ _ r))

          pub gate_right : nth l 1 < own → own ≤ nth l 2 → 7 ≡ refusal (line_tests most (gate own) (numbers_of l))
          gate_right q r = gate_order_lem (past _ _ (lt-ltb _ _ q) (stops _ _ (le-ltb _ _ r)))

          pub gate_passes : nth l 1 < own → nth l 2 < own → 0 ≡ refusal (line_tests most (gate own) (numbers_of l))
          gate_passes q r = gate_order_lem (past _ _ (lt-ltb _ _ q) (past _ _ (lt-ltb _ _ r) none))

-- A line as it is spelled: its kind, its words and its numbers, and that the reader takes exactly such a line (specification, 4). Assumes nothing.
use mathlib.Core.Path.{◌≡◌, refl, sym, ◌∙◌, ap, subst⁻¹}
use mathlib.Core.Bool.{Bool, true, false}
use mathlib.Core.List.{List, [], ◌∷◌, ◌++◌}
use Prim.Native.Nat.{ℕ, zero, suc, ◌≤◌, ◌<◌}
use native.Mathlib.Omega.{arith}
use borrow.Author.Tests.{eqb-true, leb-true, leb-false, eq-eqb, lt-leb, le-leb, ne_eqb, eqb-false}
use lib.Dec.{leb, eqb}
use lib.ListN.{length, get_or, drop, get_or-eq_default}
use lib.Seq.{drop_at}
use Rattle.three.specs.Lists.{tabulate}
use Rattle.three.proofs.Lists.{and_parts, by_test, tabulate_get_or}
use Rattle.circuit.specs.RulesInCode.{Passed}
use Rattle.circuit.specs.Table.{Kind, input, latch, literal, gate, width, row_tests, literal_tests, operand_tests}
use Rattle.text.specs.Text.{fits, owns, words, line_tests, reset_word, shown}
use Rattle.text.proofs.Lines.{Short}
use Rattle.text.proofs.Tables.{Due}

-- A line's kind, its words in front of the words ws, and its numbers; the reset may be absent, which is 0
pub data Spelled (ws : List ℕ) : Kind → List ℕ → List ℕ → Type 0 where
  input_line : {own : ℕ} → Spelled ws (input own) ws (own ∷ [])
  latch_line : {own next reset : ℕ} → Spelled ws (latch own) (next ∷ reset_word own reset ∷ ws) (own ∷ next ∷ reset ∷ [])
  latch_plain : {own next : ℕ} → Spelled ws (latch own) (next ∷ 0 ∷ ws) (own ∷ next ∷ [])
  lamp_line : {l : ℕ} → Spelled ws literal (l ∷ ws) (l ∷ [])
  gate_line : {own left right : ℕ} → Spelled ws (gate own) (left ∷ right ∷ ws) (own ∷ left ∷ right ∷ [])

-- ---- the reset of a latch

pub reset_known : (own r : ℕ) → r ≤ 1 → reset_word own r ≡ r
unfolding reset_word
reset_known own r h = rw (le-leb r 1 h, reset_word) refl

pub reset_own : (own r : ℕ) → 1 < r → r ≡ own → reset_word own r ≡ 2
unfolding reset_word
reset_own own r h e = rw (lt-leb r 1 h, reset_word) (ap (λ (b : Bool). elim b [ true ↦ 2 | false ↦ 3 ]) (eq-eqb r own e))

pub reset_other : (own r : ℕ) → 1 < r → (r ≡ own → ⊥) → reset_word own r ≡ 3
unfolding reset_word
reset_other own r h e = rw (lt-leb r 1 h, reset_word) (ap (λ (b : Bool). elim b [ true ↦ 2 | false ↦ 3 ]) (ne_eqb r own e))

reset_absent : (own : ℕ) → reset_word own 0 ≡ 0
reset_absent own = reset_known own 0 (omega arith)

-- a reset word that 8 does not refuse is of a number of at most five digits
reset_short : (own r : ℕ) → own < 100000 → reset_word own r ≤ 2 → r < 100000
reset_short own r o h =
    by_test (leb r 1) (λ e. omega (arith, leb-true r 1 e))
    (λ e. by_test (eqb r own) (λ f. rw (eqb-true r own f) o)
    (λ f. absurd (omega (arith, reset_other own r (leb-false r 1 e) (eqb-false r own f)))))

-- what a latch shows is read as its reset word
pub shown_spelled : (own next reset : ℕ) (ws : List ℕ) → 2 ≤ own → reset ≤ 2 → Spelled ws (latch own) (next ∷ reset ∷ ws) (own ∷ next ∷ shown own reset)
unfolding shown reset_word
shown_spelled own next zero ws o r = latch_plain
shown_spelled own next (suc zero) ws o r = latch_line
shown_spelled own next (suc (suc zero)) ws o r = rw (← (reset_own own own o refl)) latch_line
shown_spelled own next (suc (suc (suc n))) ws o r = absurd (omega arith)

-- ---- a line's words at the front of the table

pub length_words : (k : Kind) (ns : List ℕ) → length (words k ns) ≡ width k
unfolding words width
length_words (input own) ns = refl
length_words (latch own) ns = refl
length_words (gate own) ns = refl
length_words literal ns = refl

pub drop_words : (k : Kind) (ns ws : List ℕ) → drop (width k) (words k ns ++ ws) ≡ ws
drop_words k ns ws = drop_at (words k ns) ws (width k) (length_words k ns)

pub rules_words : (most : ℕ) (k : Kind) (ns ws : List ℕ) → row_tests most k (words k ns ++ ws) ≡ row_tests most k (words k ns)
unfolding words row_tests literal_tests operand_tests
rules_words most (input own) ns ws = refl
rules_words most (latch own) ns ws = refl
rules_words most (gate own) ns ws = refl
rules_words most literal ns ws = refl

-- ---- what is spelled is read

-- A spelled line as the reader takes it
pub record Seen (most : ℕ) (k : Kind) (all ws ns : List ℕ) : Type 0 where
  pub shape : (0 < length ns) × (length ns ≤ 3) × Short ns
  pub passes : Passed (line_tests most k ns)
  pub gives : words k ns ++ ws ≡ all

pub seen : {most : ℕ} {k : Kind} {all ws ns : List ℕ} → most < 100000 → Due most k → Spelled ws k all ns → Passed (row_tests most k all) → Seen most k all ws ns
unfolding line_tests fits owns words row_tests literal_tests operand_tests
seen m d (input_line {own = own}) p = record { shape = omega arith; passes = (refl, (eq-eqb own own refl, p)); gives = refl }
seen m d (latch_line {own = own} {reset = reset}) p = record { shape = omega (arith, leb-true, reset_short own reset (omega arith) (leb-true _ 2 p.1.0)); passes = (refl, (eq-eqb own own refl, p)); gives = refl }
seen m d (latch_plain {own = own}) p = record { shape = omega (arith, leb-true); passes = (refl, (eq-eqb own own refl, rw (reset_absent own) p)); gives = rw (reset_absent own) }
seen m d lamp_line p = record { shape = omega (arith, leb-true); passes = (refl, (refl, p)); gives = refl }
seen m d (gate_line {own = own}) p = record { shape = omega (arith, leb-true); passes = (refl, (eq-eqb own own refl, p)); gives = refl }

-- ---- what is read is spelled

-- a list is its items
pub listed : (n : ℕ) (ns : List ℕ) → length ns ≡ n → ns ≡ tabulate n (λ i. get_or ns i 0)
listed n ns h = sym (rw (← h) (tabulate_get_or ns 0))

pub spelled : (k : Kind) (ns ws : List ℕ) → fits k (length ns) ≡ true → owns k ns ≡ true → Spelled ws k (words k ns ++ ws) ns
unfolding fits owns words tabulate
spelled (input own) ns ws f o = subst⁻¹ (Spelled ws (input own) _) (listed 1 ns (eqb-true (length ns) 1 f) ∙ rw (eqb-true (get_or ns 0 0) own o)) input_line
spelled (latch own) ns ws f o =
    let q = and_parts (leb 2 (length ns)) (leb (length ns) 3) f in
    let h : get_or ns 0 0 ≡ own = eqb-true (get_or ns 0 0) own o in
    by_test (leb (length ns) 2)
    (λ s. let e : ns ≡ own ∷ get_or ns 1 0 ∷ [] = listed 2 ns (omega (arith, leb-true)) ∙ rw h in
    subst⁻¹ (Spelled ws (latch own) (words (latch own) ns ++ ws)) e (rw (get_or-eq_default ns 0 (leb-true (length ns) 2 s), reset_absent) latch_plain))
    (λ s. let e : ns ≡ own ∷ get_or ns 1 0 ∷ get_or ns 2 0 ∷ [] = listed 3 ns (omega (arith, leb-true, leb-false)) ∙ rw h in
    subst⁻¹ (Spelled ws (latch own) (words (latch own) ns ++ ws)) e (rw h latch_line))
spelled literal ns ws f o = subst⁻¹ (Spelled ws literal _) (listed 1 ns (eqb-true (length ns) 1 f)) lamp_line
spelled (gate own) ns ws f o = subst⁻¹ (Spelled ws (gate own) _) (listed 3 ns (eqb-true (length ns) 3 f) ∙ rw (eqb-true (get_or ns 0 0) own o)) gate_line

-- words that 6 and 8 do not refuse are below whatever the largest literal and a reset are below
pub words_below : (bound most : ℕ) (k : Kind) (ns : List ℕ) → 2 < bound → most < bound → Passed (literal_tests most k (words k ns)) → (i : ℕ) → get_or (words k ns) i 0 < bound
unfolding words literal_tests
words_below bound most (input own) ns b h p i = omega arith
words_below bound most (latch own) ns b h p zero = omega (arith, leb-true)
words_below bound most (latch own) ns b h p (suc zero) = omega (arith, leb-true)
words_below bound most (latch own) ns b h p (suc (suc i)) = omega arith
words_below bound most literal ns b h p zero = omega (arith, leb-true)
words_below bound most literal ns b h p (suc i) = omega arith
words_below bound most (gate own) ns b h p zero = omega (arith, leb-true)
words_below bound most (gate own) ns b h p (suc zero) = omega (arith, leb-true)
words_below bound most (gate own) ns b h p (suc (suc i)) = omega arith

-- The words of rows with the larger operand first: they are the table's ordered words, and keep the rules. Assumes nothing.
use mathlib.Core.Path.{◌≡◌, refl, ◌∙◌, ap}
use mathlib.Core.List.{List, [], ◌∷◌, ◌++◌, append_assoc}
use Prim.Native.Nat.{ℕ, zero, suc, ◌+◌, ◌*◌, ◌≤◌, max, min}
use native.Mathlib.Nat.{zero-mul, suc-mul}
use native.Mathlib.Omega.{arith}
use borrow.Author.Tests.{leb-true, ltb-true, le-leb, lt-ltb}
use lib.ListN.{length, get_or, take, drop, length-drop}
use lib.Seq.{take-add, drop-drop}
use Rattle.circuit.specs.declared.Counts.{Counts}
use Rattle.circuit.specs.RulesInCode.{Passed}
use Rattle.circuit.specs.Table.{top, Kind, input, latch, literal, gate, several, kinds, width, row_tests, table_tests, table_length, literals, gates_at, literal_tests, operand_tests}
use Rattle.circuit.proofs.Refusals.{passed_append}
use Rattle.text.proofs.Outcomes.{append_passed}
use Rattle.text.proofs.Tables.{Taken}
use Rattle.binary.specs.Ordered.{ordered_pairs, ordered}

-- the words of a row
unfoldable pub ordered_row : Kind → List ℕ → List ℕ
ordered_row (input own) ws = []
ordered_row (latch own) ws = get_or ws 0 0 ∷ get_or ws 1 0 ∷ []
ordered_row literal ws = get_or ws 0 0 ∷ []
ordered_row (gate own) ws = max (get_or ws 0 0) (get_or ws 1 0) ∷ min (get_or ws 0 0) (get_or ws 1 0) ∷ []

unfoldable pub ordered_rows : List Kind → List ℕ → List ℕ
ordered_rows [] ws = []
ordered_rows (k ∷ ks) ws = ordered_row k ws ++ ordered_rows ks (drop (width k) ws)

-- ---- the words of all rows

-- rows of a kind whose words stay
rows_several : (kind : ℕ → Kind) (w : ℕ) → ((own : ℕ) → width (kind own) ≡ w) → ((own : ℕ) (ws : List ℕ) → w ≤ length ws → ordered_row (kind own) ws ≡ take w ws)
    → (own n : ℕ) (ks : List Kind) (ws : List ℕ) → n * w ≤ length ws → ordered_rows (several kind own n ks) ws ≡ take (n * w) ws ++ ordered_rows ks (drop (n * w) ws)
unfolding several ordered_rows
rows_several kind w wide stays own zero ks ws h = rw zero-mul
rows_several kind w wide stays own (suc n) ks ws h =
    let e : suc n * w ≡ w + n * w = omega (arith, suc-mul n w) in
    let on = rows_several kind w wide stays (own + 2) n ks (drop w ws) (simp length-drop (omega (arith, suc-mul n w))) in
    rw (wide own, stays own ws (omega (arith, suc-mul n w)), on, e, take-add, append_assoc, drop-drop)

latch_stays : (own : ℕ) (ws : List ℕ) → 2 ≤ length ws → ordered_row (latch own) ws ≡ take 2 ws
unfolding ordered_row
latch_stays own [] h = absurd (omega arith)
latch_stays own (a ∷ []) h = absurd (omega arith)
latch_stays own (a ∷ b ∷ ws) h = refl

literal_stays : (own : ℕ) (ws : List ℕ) → 1 ≤ length ws → ordered_row literal ws ≡ take 1 ws
unfolding ordered_row
literal_stays own [] h = absurd (omega arith)
literal_stays own (a ∷ ws) h = refl

rows_gates : (own n : ℕ) (ws : List ℕ) → ordered_rows (several gate own n []) ws ≡ ordered_pairs n ws
unfolding several ordered_rows ordered_row ordered_pairs width
rows_gates own zero ws = refl
rows_gates own (suc n) ws = ap (λ (x : List ℕ). max (get_or ws 0 0) (get_or ws 1 0) ∷ min (get_or ws 0 0) (get_or ws 1 0) ∷ x) (rows_gates (own + 2) n (drop 2 ws))

pub ordered_rows_lem : (c : Counts) (table : List ℕ) → table_length c ≤ length table → ordered_rows (kinds c) table ≡ ordered c table
unfolding kinds ordered width ordered_row
ordered_rows_lem c table h =
    let i0 : c.inputs * 0 ≡ 0 = omega arith in
    let e : gates_at c ≡ c.latches * 2 + literals c * 1 = omega arith in
    rows_several input 0 (λ own. refl) (λ own ws k. refl) 2 c.inputs _ table (omega arith)
    ∙ rw i0 (rows_several latch 2 (λ own. refl) latch_stays _ c.latches _ table (omega arith)
    ∙ rw (rows_several (λ own. literal) 1 (λ own. refl) literal_stays 0 (literals c) (several gate (2 + 2 * c.inputs + 2 * c.latches) c.gates []) (drop (c.latches * 2) table) (simp length-drop (omega arith)), rows_gates, e, take-add, append_assoc, drop-drop))

-- ---- and keep the rules that they kept

row_rules : (most : ℕ) (k : Kind) (ws us : List ℕ) → Passed (row_tests most k ws) → Passed (row_tests most k (ordered_row k ws ++ us))
unfolding row_tests literal_tests operand_tests ordered_row
row_rules most (input own) ws us p = tt
row_rules most (latch own) ws us p = p
row_rules most literal ws us p = p
row_rules most (gate own) ws us p =
    let a : ℕ = get_or ws 0 0 in
    let b : ℕ = get_or ws 1 0 in
    let l = ltb-true (get_or ws 0 0) own p.1.1.0 in
    let r = ltb-true (get_or ws 1 0) own p.1.1.1.0 in
    let m = leb-true (get_or ws 0 0) most p.0 in
    let n = leb-true (get_or ws 1 0) most p.1.0 in
    (le-leb (max a b) most (omega arith), (le-leb (min a b) most (omega arith), (lt-ltb (max a b) own (omega arith), (lt-ltb (min a b) own (omega arith), tt))))

drop_row : (k : Kind) (ws us : List ℕ) → drop (width k) (ordered_row k ws ++ us) ≡ us
unfolding ordered_row width
drop_row (input own) ws us = refl
drop_row (latch own) ws us = refl
drop_row literal ws us = refl
drop_row (gate own) ws us = refl

rows_rules : (most : ℕ) (ks : List Kind) (ws : List ℕ) → Passed (table_tests most ks ws) → Passed (table_tests most ks (ordered_rows ks ws))
unfolding table_tests ordered_rows
rows_rules most [] ws p = tt
rows_rules most (k ∷ ks) ws p =
    let q = passed_append (row_tests most k ws) (table_tests most ks (drop (width k) ws)) p in
    append_passed (row_tests most k (ordered_row k ws ++ ordered_rows ks (drop (width k) ws))) _ (row_rules most k ws _ q.0) (rw (drop_row k ws (ordered_rows ks (drop (width k) ws))) (rows_rules most ks (drop (width k) ws) q.1))

pub ordered_rules : (c : Counts) (table : List ℕ) → Taken c table → Passed (table_tests (top c) (kinds c) (ordered c table))
ordered_rules c table k = rw (← (ordered_rows_lem c table k.long)) (rows_rules (top c) (kinds c) table k.rules)

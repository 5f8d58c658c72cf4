-- Laws of the rules for a table's words: kind by kind, and what they say of each word. Assumes nothing.
use mathlib.Core.Path.{◌≡◌, refl, sym, ap, ap₂, ◌∙◌}
use mathlib.Core.Bool.{Bool, true, false, ◌&&◌, and-true, and_assoc}
use mathlib.Core.List.{List, [], ◌∷◌, ◌++◌}
use Prim.Native.Nat.{ℕ, zero, suc, ◌+◌, ◌*◌, ◌<◌, ◌≤◌}
use native.Mathlib.Nat.{add-zero, zero-mul, mul-suc, mul-zero}
use native.Mathlib.Omega.{arith}
use borrow.Author.Tests.{le-leb, ltb-true}
use lib.Dec.{leb, ltb}
use lib.ListN.{get_or, drop}
use lib.Seq.{get_or-drop, drop-drop}
use Rattle.three.specs.Lists.{every}
use Rattle.three.proofs.Lists.{iff, and_parts, every_all, every_ext}
use Rattle.circuit.specs.Refusal.{Test, all_hold}
use Rattle.circuit.specs.Table.{Kind, input, latch, literal, gate, several, kinds, width, row_tests, table_tests, top, literals_at, gates_at, literals, literal_tests, operand_tests}
use Rattle.circuit.specs.RulesInCode.{latch_kept, literal_kept, gate_kept}
use Rattle.circuit.specs.declared.Counts.{Counts}

pub and_fails : {a : Bool} (b : Bool) → a ≡ false → false ≡ (a && b)
and_fails {a} b e = rw e

pub and_holds : {a : Bool} (b : Bool) → a ≡ true → b ≡ (a && b)
and_holds {a} b e = rw e

all_hold_append : (ss ts : List Test) → all_hold (ss ++ ts) ≡ (all_hold ss && all_hold ts)
unfolding all_hold
all_hold_append [] ts = refl
all_hold_append (s ∷ ss) ts = ap (λ t. s.holds && t) (all_hold_append ss ts) ∙ sym (and_assoc s.holds (all_hold ss) (all_hold ts))

-- of lines of one kind, w words each, line number i keeps the rules
row_holds : ℕ → (ℕ → Kind) → ℕ → ℕ → List ℕ → ℕ → Bool
row_holds most kind w own ws i = all_hold (row_tests most (kind (own + 2 * i)) (drop (w * i) ws))

-- so the rules are those of such lines, and those of the others
module _ (most : ℕ) (kind : ℕ → Kind) (w : ℕ) (wide : (own : ℕ) → width (kind own) ≡ w) where
  abbrev holds : ℕ → List ℕ → ℕ → Bool
  holds = row_holds most kind w

  row_holds_zero : (own : ℕ) (ws : List ℕ) → all_hold (row_tests most (kind own) ws) ≡ holds own ws 0
  unfolding row_holds
  row_holds_zero own ws = rw (mul-zero w, add-zero)

  row_holds_suc : (own : ℕ) (ws : List ℕ) (i : ℕ) → holds (own + 2) (drop w ws) i ≡ holds own ws (suc i)
  unfolding row_holds
  row_holds_suc own ws i =
      let o : own + 2 + 2 * i ≡ own + 2 * suc i = omega arith in
      let p : w + w * i ≡ w * suc i = omega (arith, mul-suc w i) in
      rw (drop-drop, o, p)

  rows : (n own : ℕ) (ks : List Kind) (ws : List ℕ)
      → all_hold (table_tests most (several kind own n ks) ws) ≡ (every n (holds own ws) && all_hold (table_tests most ks (drop (w * n) ws)))
  unfolding several table_tests every
  rows zero own ks ws = rw mul-zero
  rows (suc n) own ks ws =
      let p : w + w * n ≡ w * suc n = omega (arith, mul-suc w n) in
      let rest : all_hold (table_tests most (several kind (own + 2) n ks) (drop (width (kind own)) ws)) ≡ (every n (λ i. holds own ws (suc i)) && all_hold (table_tests most ks (drop (w * suc n) ws))) =
      rw wide (rows n (own + 2) ks (drop w ws) ∙ ap₂ (λ (x y : Bool). x && y) (every_ext n _ _ (λ i h. row_holds_suc own ws i)) (rw (drop-drop, p))) in
      all_hold_append (row_tests most (kind own) ws) _ ∙ ap₂ (λ (x y : Bool). x && y) (row_holds_zero own ws) rest ∙ sym (and_assoc (holds own ws 0) (every n (λ i. holds own ws (suc i))) _)

-- ---- the three kinds that have words

latch_row : (most own : ℕ) (ws : List ℕ) (at : ℕ) → all_hold (row_tests most (latch own) (drop at ws)) ≡ latch_kept most ws at
unfolding latch_kept row_tests literal_tests operand_tests all_hold
latch_row most own ws at = rw (get_or-drop at ws 0 0, get_or-drop at ws 1 0, add-zero) (ap (λ t. leb (get_or ws at 0) most && t) (and-true _))

literal_row : (most : ℕ) (ws : List ℕ) (at : ℕ) → all_hold (row_tests most literal (drop at ws)) ≡ literal_kept most ws at
unfolding literal_kept row_tests literal_tests operand_tests all_hold
literal_row most ws at = rw (get_or-drop at ws 0 0, add-zero) (and-true _)

-- an operand below an own literal is below the largest literal
gate_row_lem : (most own : ℕ) → own ≤ most → (ws : List ℕ) (at : ℕ) → all_hold (row_tests most (gate own) (drop at ws)) ≡ gate_kept own ws at
unfolding gate_kept row_tests literal_tests operand_tests all_hold
gate_row_lem most own h ws at = rw (get_or-drop at ws 0 0, get_or-drop at ws 1 0, add-zero)
    (iff _ _
    (λ e. let p = and_parts (leb (get_or ws at 0) most) _ e in let q = and_parts (leb (get_or ws (at + 1) 0) most) _ p.1 in ap (λ t. ltb (get_or ws at 0) own && t) (sym (and-true _)) ∙ q.1)
    (λ e. let p = and_parts (ltb (get_or ws at 0) own) _ e in
    let l : get_or ws at 0 < own = ltb-true (get_or ws at 0) own p.0 in
    let r : get_or ws (at + 1) 0 < own = ltb-true (get_or ws (at + 1) 0) own p.1 in
    rw (le-leb (get_or ws at 0) most (omega arith), le-leb (get_or ws (at + 1) 0) most (omega arith)) (ap (λ t. ltb (get_or ws at 0) own && t) (and-true _) ∙ e)))

-- the table's rules, kind by kind
module _ (c : Counts) (ws : List ℕ) where
  abbrev pub Latches : Bool
  Latches = every c.latches (λ i. latch_kept (top c) ws (2 * i))

  abbrev pub Literals : Bool
  Literals = every (literals c) (λ i. literal_kept (top c) ws (literals_at c + i))

  abbrev pub Gates : Bool
  Gates = every c.gates (λ i. gate_kept (2 * (1 + c.inputs + c.latches) + 2 * i) ws (gates_at c + 2 * i))

  -- an input has no word
  inputs_hold : every c.inputs (row_holds (top c) input 0 2 ws) ≡ true
  unfolding row_holds row_tests literal_tests operand_tests all_hold
  inputs_hold = every_all c.inputs _ (λ i h. refl)

  latches_hold : every c.latches (row_holds (top c) latch 2 (2 + 2 * c.inputs) ws) ≡ Latches
  unfolding row_holds
  latches_hold = every_ext c.latches _ _ (λ i h. latch_row (top c) _ ws (2 * i))

  literals_hold : every (literals c) (row_holds (top c) (λ own. literal) 1 0 (drop (literals_at c) ws)) ≡ Literals
  unfolding row_holds
  literals_hold = every_ext (literals c) _ _ (λ i h. let p : literals_at c + 1 * i ≡ literals_at c + i = omega arith in rw (drop-drop, p) (literal_row (top c) ws (literals_at c + i)))

  gates_hold : every c.gates (row_holds (top c) gate 2 (2 + 2 * c.inputs + 2 * c.latches) (drop (gates_at c) ws)) ≡ Gates
  unfolding row_holds
  gates_hold = every_ext c.gates _ _
      (λ i h. let o : 2 + 2 * c.inputs + 2 * c.latches + 2 * i ≡ 2 * (1 + c.inputs + c.latches) + 2 * i = omega arith in
      rw (drop-drop, o) (gate_row_lem (top c) (2 * (1 + c.inputs + c.latches) + 2 * i) (omega arith) ws (gates_at c + 2 * i)))

  -- the lines of the gates, and those from the lamps and from the latches on
  abbrev gate_lines : List Kind
  gate_lines = several gate (2 + 2 * c.inputs + 2 * c.latches) c.gates []

  abbrev literal_lines : List Kind
  literal_lines = several (λ own. literal) 0 (literals c) gate_lines

  abbrev latch_lines : List Kind
  latch_lines = several latch (2 + 2 * c.inputs) c.latches literal_lines

  from_gates : all_hold (table_tests (top c) gate_lines (drop (gates_at c) ws)) ≡ Gates
  unfolding width table_tests all_hold
  from_gates = rows (top c) gate 2 (λ own. refl) c.gates _ [] (drop (gates_at c) ws) ∙ and-true _ ∙ gates_hold

  from_literals : all_hold (table_tests (top c) literal_lines (drop (literals_at c) ws)) ≡ (Literals && Gates)
  unfolding width
  from_literals =
      let p : literals_at c + 1 * literals c ≡ gates_at c = omega arith in
      rows (top c) (λ own. literal) 1 (λ own. refl) (literals c) 0 gate_lines (drop (literals_at c) ws)
      ∙ ap₂ (λ (x y : Bool). x && y) literals_hold (rw (drop-drop, p) from_gates)

  from_latches : all_hold (table_tests (top c) latch_lines ws) ≡ (Latches && (Literals && Gates))
  unfolding width
  from_latches = rows (top c) latch 2 (λ own. refl) c.latches _ literal_lines ws ∙ ap₂ (λ (x y : Bool). x && y) latches_hold from_literals

  pub table_rules : all_hold (table_tests (top c) (kinds c) ws) ≡ (Latches && (Literals && Gates))
  unfolding kinds width
  table_rules = rows (top c) input 0 (λ own. refl) c.inputs 2 latch_lines ws ∙ rw (inputs_hold, zero-mul) from_latches

  -- what a check finds, in the order of the kinds
  pub latches_break : {l : Bool} → l ≡ Latches → l ≡ false → false ≡ all_hold (table_tests (top c) (kinds c) ws)
  latches_break e f = and_fails _ (sym e ∙ f) ∙ sym table_rules

  pub literals_break : {l m : Bool} → l ≡ Latches → l ≡ true → m ≡ Literals → m ≡ false → false ≡ all_hold (table_tests (top c) (kinds c) ws)
  literals_break e f g h = and_fails _ (sym g ∙ h) ∙ and_holds _ (sym e ∙ f) ∙ sym table_rules

  pub gates_decide : {l m a : Bool} → l ≡ Latches → l ≡ true → m ≡ Literals → m ≡ true → a ≡ Gates → a ≡ all_hold (table_tests (top c) (kinds c) ws)
  gates_decide e f g h k = k ∙ and_holds _ (sym g ∙ h) ∙ and_holds _ (sym e ∙ f) ∙ sym table_rules

-- A plain text whose gates stand by depth already: its table is the plain one, and every variable keeps its number. Assumes nothing.
use mathlib.Core.Path.{◌≡◌, sym, ap, ◌∙◌}
use mathlib.Core.Logic.{inl, inr}
use mathlib.Core.List.{List}
use Prim.Native.Nat.{ℕ, zero, suc, ◌+◌, ◌*◌, ◌-◌, ◌/◌, ◌%◌, ◌<◌, ◌≤◌}
use native.Mathlib.Nat.{add-zero}
use native.Mathlib.Omega.{arith}
use native.Mathlib.Decide.{dec_lt, ℕ_discrete}
use lib.ListN.{length, get_or}
use Rattle.three.specs.Lists.{tabulate}
use Rattle.three.proofs.Lists.{tabulate_ext, tabulate_get_or}
use Rattle.circuit.specs.Table.{table_length, top, literals_at, gates_at}
use Rattle.circuit.specs.RulesInCode.{Legal}
use Rattle.drawn.specs.Depth.{deep}
use Rattle.drawn.specs.Drawing.{Drawing, leaves, lines, own, left_source, right_source, gate_at, line_at, name, rename, renumbered, table}
use Rattle.drawn.proofs.Proper.{Proper}
use Rattle.drawn.proofs.Sorting.{Before}
use Rattle.drawn.proofs.Naming.{gates_sorted, gate_small, line_leaf, line_gate, name_line, name_zero}
use Rattle.drawn.proofs.Tables.{table_length_lem, table_next, table_reset, table_single, table_left, table_right}

-- two lists of one length with the same entries
same_entries : (xs ys : List ℕ) → length xs ≡ length ys → ((k : ℕ) → k < length xs → get_or xs k 0 ≡ get_or ys k 0) → xs ≡ ys
same_entries xs ys e h = sym (tabulate_get_or xs 0) ∙ tabulate_ext (length xs) _ _ h ∙ ap (λ n. tabulate n (λ k. get_or ys k 0)) e ∙ tabulate_get_or ys 0

module _ (d : Drawing) (p : Proper d) where
  abbrev depth_of : ℕ → ℕ
  depth_of = deep (left_source d) (right_source d) d.counts.gates

  -- no gate is deeper than one behind it
  module _ (standing : (i k : ℕ) → i < k → k < d.counts.gates → depth_of i ≤ depth_of k) where
    gates_rise : (i k : ℕ) → i < k → k < d.counts.gates → gate_at d i < gate_at d k
    gates_rise i k l h = go (dec_lt (gate_at d i) (gate_at d k)) (ℕ_discrete (gate_at d i) (gate_at d k)) ((gates_sorted d p).ranked i k l (let e = (gates_sorted d p).long in omega (arith, e)))
      where
        go : Dec (gate_at d i < gate_at d k) → Dec (gate_at d i ≡ gate_at d k) → Before d.counts.gates depth_of (gate_at d i) (gate_at d k) → gate_at d i < gate_at d k
        go (yes r) e b = r
        go (no r) e (inr b) = b.1
        go (no r) (yes e) (inl b) = absurd (omega (arith, b, ap (λ n. depth_of n) e))
        go (no r) (no e) (inl b) = absurd (omega (arith, b, standing (gate_at d k) (gate_at d i) (omega arith) (gate_small d p i (omega arith))))

    -- a rising list of all numbers is the numbers themselves
    at_least : (q : ℕ) → q < d.counts.gates → q ≤ gate_at d q
    at_least zero h = omega arith
    at_least (suc q) h = omega (arith, at_least q (omega arith), gates_rise q (suc q) (omega arith) h)

    at_most : (q k : ℕ) → q + k < d.counts.gates → gate_at d q + k ≤ gate_at d (q + k)
    at_most q zero h = rw (add-zero, add-zero) (omega arith)
    at_most q (suc k) h =
        let e : q + suc k ≡ suc (q + k) = omega arith in
        rw e (omega (arith, at_most q k (omega arith), gates_rise (q + k) (suc (q + k)) (omega arith) (omega arith)))

    pub gate_kept_lem : (q : ℕ) → q < d.counts.gates → gate_at d q ≡ q
    gate_kept_lem q h =
        let last : q + (d.counts.gates - 1 - q) ≡ d.counts.gates - 1 = omega arith in
        let most = at_most q (d.counts.gates - 1 - q) (omega arith) in
        let small = gate_small d p (d.counts.gates - 1) (omega arith) in
        omega (arith, at_least q h, most, small, ap (gate_at d) last)

    line_kept : (r : ℕ) → r < lines d → line_at d r ≡ r
    line_kept r h = go (dec_lt r (leaves d))
      where
        go : Dec (r < leaves d) → line_at d r ≡ r
        go (yes l) = line_leaf d p r l
        go (no l) =
            let e : leaves d + (r - leaves d) ≡ r = omega arith in
            ap (line_at d) (sym e) ∙ line_gate d p (r - leaves d) ∙ ap (λ n. leaves d + n) (gate_kept_lem (r - leaves d) (omega arith)) ∙ e

    -- own literals as they are due
    module _ (due : (k : ℕ) → k < lines d → own d k ≡ 2 + 2 * k) where
      pub name_kept : (v : ℕ) → v ≤ lines d → name d v ≡ v
      name_kept zero h = name_zero d p
      name_kept (suc r) h = name_line d p (suc r) r h (ap (own d) (line_kept r h) ∙ due r h ∙ omega arith)

      rename_kept : (x : ℕ) → x ≤ top d.counts → rename d x ≡ x
      unfolding rename
      rename_kept x h = let n = name_kept (x / 2) (omega arith) in omega (arith, n)

      pub list_kept : d.most ≡ lines d → renumbered d ≡ tabulate (suc (lines d)) (λ v. v)
      unfolding renumbered
      list_kept m = ap (λ n. tabulate (suc n) (name d)) m ∙ (tabulate_ext (suc (lines d)) (name d) (λ v. v) (λ v h. name_kept v (omega arith)))

      module _ (l : Legal d.counts d.words) (long : length d.words ≡ table_length d.counts) where
        word_kept : (k : ℕ) → k < table_length d.counts → get_or (table d) k 0 ≡ get_or d.words k 0
        word_kept k h = go (dec_lt k (literals_at d.counts)) (dec_lt k (gates_at d.counts)) (ℕ_discrete (k % 2) 0) (ℕ_discrete ((k - gates_at d.counts) % 2) 0)
          where
            there : {i : ℕ} → i ≡ k → get_or (table d) i 0 ≡ get_or d.words i 0 → get_or (table d) k 0 ≡ get_or d.words k 0
            there e w = rw (← e) w

            go : Dec (k < literals_at d.counts) → Dec (k < gates_at d.counts) → Dec (k % 2 ≡ 0) → Dec ((k - gates_at d.counts) % 2 ≡ 0) → get_or (table d) k 0 ≡ get_or d.words k 0
            go (yes a) b (yes e) f = there {i = 2 * (k / 2)} (omega arith) (table_next d (k / 2) (omega arith) ∙ rename_kept _ (l.next (k / 2) (omega arith)))
            go (yes a) b (no e) f = there {i = 2 * (k / 2) + 1} (omega arith) (table_reset d (k / 2) (omega arith))
            go (no a) (yes b) e f = there {i = literals_at d.counts + (k - literals_at d.counts)} (omega arith) (table_single d (k - literals_at d.counts) (omega arith) ∙ rename_kept _ (l.literal (k - literals_at d.counts) (omega arith)))
            go (no a) (no b) e (yes f) =
                let g = (k - gates_at d.counts) / 2 in
                let h' : g < d.counts.gates = omega arith in
                there {i = gates_at d.counts + 2 * g} (omega arith)
                (table_left d g h' ∙ ap (λ i. rename d (get_or d.words (gates_at d.counts + 2 * i) 0)) (gate_kept_lem g h') ∙ rename_kept _ (let s = l.left g h' in omega (arith, s)))
            go (no a) (no b) e (no f) =
                let g = (k - gates_at d.counts) / 2 in
                let h' : g < d.counts.gates = omega arith in
                there {i = gates_at d.counts + 2 * g + 1} (omega arith)
                (table_right d g h' ∙ ap (λ i. rename d (get_or d.words (gates_at d.counts + 2 * i + 1) 0)) (gate_kept_lem g h') ∙ rename_kept _ (let s = l.right g h' in omega (arith, s)))

        pub table_kept : table d ≡ d.words
        table_kept = same_entries (table d) d.words (table_length_lem d ∙ sym long) (λ k h. word_kept k (let e = table_length_lem d in omega (arith, e)))

-- Laws of the table as it is filled: word by word, and that it is the drawing's table. Assumes nothing.
use mathlib.Core.Path.{◌≡◌, refl, sym, ap, ap₂, ◌∙◌, subst}
use mathlib.Core.List.{List, [], ◌++◌, append-nil}
use Prim.Native.Nat.{ℕ, zero, suc, ◌+◌, ◌*◌, ◌-◌, ◌/◌, ◌%◌, ◌<◌, ◌≤◌}
use native.Mathlib.Omega.{arith}
use native.Mathlib.Decide.{ℕ_discrete}
use lib.ListN.{length, get_or, set, take, drop, length-append}
use lib.Seq.{paste, length-take-le}
use Rattle.std.proofs.lemmas.List.{get_or-take, drop_all}
use Rattle.three.specs.Lists.{tabulate, over}
use Rattle.three.proofs.Lists.{tabulate_ext, tabulate_get_or, length_tabulate, get_or_tabulate}
use Rattle.three.proofs.Loops.{Stored, stored_next, stored_last, over_paste}
use Rattle.circuit.specs.declared.Counts.{Counts}
use Rattle.circuit.specs.Table.{table_length, literals, literals_at, gates_at}
use Rattle.drawn.proofs.Pairs.{length_pairs, pairs_left, pairs_right, first_part, second_part, third_part}
use Rattle.drawn.specs.Numbers.{pairs}
use Rattle.drawn.specs.Drawing.{Drawing, next_literal, single, left, right, reset, gate_at, name, rename, table}
use Rattle.names.specs.Naming.{renamed_by}
use Rattle.names.specs.Tabling.{table_by, Tabled}

pairs_ext : (n : ℕ) (f g f' g' : ℕ → ℕ) → ((i : ℕ) → i < n → f i ≡ f' i) → ((i : ℕ) → i < n → g i ≡ g' i) → pairs n f g ≡ pairs n f' g'
unfolding pairs
pairs_ext n f g f' g' a b = tabulate_ext (2 * n) _ _ (λ k h. go (k % 2) k h)
  where
    go : (m k : ℕ) → k < 2 * n → ◌≡◌ {A = ℕ} (elim m [ zero ↦ f (k / 2) | suc m ↦ g (k / 2) ]) (elim m [ zero ↦ f' (k / 2) | suc m ↦ g' (k / 2) ])
    go zero k h = a (k / 2) (omega arith)
    go (suc m) k h = b (k / 2) (omega arith)

-- numbers and an order that are the drawing's give its table
module _ (d : Drawing) (names order : List ℕ) (named : (v : ℕ) → get_or names v 0 ≡ name d v) (ordered : (q : ℕ) → q < d.counts.gates → get_or order q 0 ≡ gate_at d q) where
  renamed_same : (x : ℕ) → renamed_by names x ≡ rename d x
  unfolding renamed_by rename
  renamed_same x = ap (λ (n : ℕ). 2 * n + x % 2) (named (x / 2))

  pub table_same : table_by d.counts d.words names order ≡ table d
  unfolding table_by table
  table_same =
      ap₂ (λ (xs ys : List ℕ). xs ++ ys)
      (pairs_ext d.counts.latches _ (reset d) _ (reset d) (λ i h. renamed_same (next_literal d i)) (λ i h. refl))
      (ap₂ (λ (xs ys : List ℕ). xs ++ ys)
      (tabulate_ext (literals d.counts) _ _ (λ i h. renamed_same (single d i)))
      (pairs_ext d.counts.gates _ _ _ _
      (λ q h. renamed_same (left d (get_or order q 0)) ∙ ap (λ (i : ℕ). rename d (left d i)) (ordered q h))
      (λ q h. renamed_same (right d (get_or order q 0)) ∙ ap (λ (i : ℕ). rename d (right d i)) (ordered q h))))

-- ---- word by word

module _ (c : Counts) (words names order : List ℕ) where
  abbrev latch_part : List ℕ
  latch_part = pairs c.latches (λ i. renamed_by names (get_or words (2 * i) 0)) (λ i. get_or words (2 * i + 1) 0)

  abbrev literal_part : List ℕ
  literal_part = tabulate (literals c) (λ i. renamed_by names (get_or words (literals_at c + i) 0))

  abbrev gate_part : List ℕ
  gate_part = pairs c.gates (λ q. renamed_by names (get_or words (gates_at c + 2 * get_or order q 0) 0)) (λ q. renamed_by names (get_or words (gates_at c + 2 * get_or order q 0 + 1) 0))

  latch_long : length latch_part ≡ literals_at c
  latch_long = length_pairs c.latches _ _

  literal_long : length literal_part ≡ literals c
  literal_long = length_tabulate (literals c) _

  gate_long : length gate_part ≡ 2 * c.gates
  gate_long = length_pairs c.gates _ _

  pub table_long : length (table_by c words names order) ≡ table_length c
  unfolding table_by
  table_long = omega (arith, length-append latch_part (literal_part ++ gate_part), length-append literal_part gate_part, latch_long, literal_long, gate_long)

  pub word_reset : (k : ℕ) → k < literals_at c → k % 2 ≡ 1 → get_or words k 0 ≡ get_or (table_by c words names order) k 0
  unfolding table_by
  word_reset k h odd =
      let e : 2 * (k / 2) + 1 ≡ k = omega arith in
      sym (first_part latch_part literal_part gate_part k (omega (arith, latch_long)) ∙ ap (λ (n : ℕ). get_or latch_part n 0) (sym e) ∙ pairs_right c.latches _ _ (k / 2) (omega arith) ∙ ap (λ (n : ℕ). get_or words n 0) e)

  pub word_next : (k : ℕ) → k < literals_at c → (k % 2 ≡ 1 → ⊥) → renamed_by names (get_or words k 0) ≡ get_or (table_by c words names order) k 0
  unfolding table_by
  word_next k h even =
      let e : 2 * (k / 2) ≡ k = omega arith in
      sym (first_part latch_part literal_part gate_part k (omega (arith, latch_long)) ∙ ap (λ (n : ℕ). get_or latch_part n 0) (sym e) ∙ pairs_left c.latches _ _ (k / 2) (omega arith) ∙ ap (λ (n : ℕ). renamed_by names (get_or words n 0)) e)

  pub word_lamp : (k : ℕ) → literals_at c ≤ k → k < gates_at c → renamed_by names (get_or words k 0) ≡ get_or (table_by c words names order) k 0
  unfolding table_by
  word_lamp k l h =
      let e : literals_at c + (k - literals_at c) ≡ k = omega arith in
      sym (second_part latch_part literal_part gate_part k (k - literals_at c) (omega (arith, latch_long)) (omega (arith, literal_long)) ∙ get_or_tabulate (literals c) _ (k - literals_at c) 0 (omega arith) ∙ ap (λ (n : ℕ). renamed_by names (get_or words n 0)) e)

  pub word_gate : (k i : ℕ) → gates_at c ≤ k → k < table_length c → i ≡ get_or order ((k - (gates_at c)) / 2) 0
      → renamed_by names (get_or words (gates_at c + 2 * i + (k - (gates_at c)) % 2) 0) ≡ get_or (table_by c words names order) k 0
  unfolding table_by
  word_gate k i l h is = sym (third_part latch_part literal_part gate_part k (k - (gates_at c)) (omega (arith, latch_long, literal_long)) ∙ go (ℕ_discrete ((k - (gates_at c)) % 2) 0))
    where
      go : Dec ((k - (gates_at c)) % 2 ≡ 0) → get_or gate_part (k - (gates_at c)) 0 ≡ renamed_by names (get_or words (gates_at c + 2 * i + (k - (gates_at c)) % 2) 0)
      go (yes z) =
          let e : 2 * ((k - (gates_at c)) / 2) ≡ k - (gates_at c) = omega (arith, z) in
          ap (λ (n : ℕ). get_or gate_part n 0) (sym e) ∙ pairs_left c.gates _ _ ((k - (gates_at c)) / 2) (omega arith)
          ∙ ap (λ (n : ℕ). renamed_by names (get_or words n 0)) (omega (arith, is, z))
      go (no z) =
          let e : 2 * ((k - (gates_at c)) / 2) + 1 ≡ k - (gates_at c) = omega (arith, z) in
          ap (λ (n : ℕ). get_or gate_part n 0) (sym e) ∙ pairs_right c.gates _ _ ((k - (gates_at c)) / 2) (omega arith)
          ∙ ap (λ (n : ℕ). renamed_by names (get_or words n 0)) (omega (arith, is, z))

  -- the word of a gate's operand is one of the words
  pub gate_word : Tabled c words names order → (k i : ℕ) → gates_at c ≤ k → k < table_length c → i ≡ get_or order ((k - (gates_at c)) / 2) 0
      → gates_at c + 2 * i + (k - (gates_at c)) % 2 < table_length c
  gate_word t k i l h is = omega (arith, is, t.gates ((k - (gates_at c)) / 2) (omega arith))

  -- the same where the code has the place of the first gate as a number
  module _ (g : ℕ) (e : g ≡ gates_at c) (k i : ℕ) (l : g ≤ k) (h : k < table_length c) (is : i ≡ get_or order ((k - g) / 2) 0) where
    pub gate_at_lem : renamed_by names (get_or words (g + 2 * i + (k - g) % 2) 0) ≡ get_or (table_by c words names order) k 0
    gate_at_lem = subst (λ g. g ≤ k → i ≡ get_or order ((k - g) / 2) 0 → renamed_by names (get_or words (g + 2 * i + (k - g) % 2) 0) ≡ get_or (table_by c words names order) k 0) (sym e) (λ l is. word_gate k i l h is) l is

    pub gate_within : Tabled c words names order → g + 2 * i + (k - g) % 2 < table_length c
    gate_within t = subst (λ g. g ≤ k → i ≡ get_or order ((k - g) / 2) 0 → g + 2 * i + (k - g) % 2 < table_length c) (sym e) (λ l is. gate_word t k i l h is) l is

-- ---- the loop that stores the words in the front of the table

module _ (t s : List ℕ) (m n : ℕ) (is : m ≡ n) (room : n ≤ length t) (long : length s ≡ n) (e : List ℕ) (i : ℕ) (c : Stored (take m t) 0 s n e i) where
  front : length (take m t) ≡ n
  front = length-take-le m t (omega arith) ∙ is

  pub fill_next : (v : ℕ) → i < length (take m t) → v ≡ get_or s i 0 → Stored (take m t) 0 s n (set e i v) (i + 1)
  fill_next v h q =
      let z : 0 + i ≡ i = omega arith in
      rw z at (stored_next (take m t) 0 s n (omega (arith, front)) (omega arith) e i v 0 c (omega (arith, front)) q)

  pub fill_last : length (take m t) ≤ i → e ++ drop m t ≡ over s t
  unfolding over
  fill_last h =
      let all : e ≡ over s (take m t) = stored_last (take m t) 0 s n e i c (omega (arith, front)) ∙ ap (λ (m' : ℕ). paste (take m t) 0 s m') (sym long) ∙ over_paste (take m t) s in
      let beyond : drop (length s) (take m t) ≡ [] = drop_all (length s) (take m t) (omega (arith, front)) in
      let same : e ≡ s = all ∙ ap (λ l. s ++ l) beyond ∙ append-nil s in
      rw (same, is, ← long) refl

-- the first ones, copied to the front
pub copied_over : (n : ℕ) (list buffer copy : List ℕ) → n ≤ length list → copy ≡ take n list → copy ++ drop n buffer ≡ over (tabulate n (λ v. get_or list v 0)) buffer
unfolding over
copied_over n list buffer copy h e =
    let long : length (take n list) ≡ n = length-take-le n list h in
    let same : tabulate n (λ v. get_or list v 0) ≡ take n list =
    (tabulate_ext n (λ v. get_or list v 0) (λ v. get_or (take n list) v 0) (λ i k. sym (get_or-take n list i 0 k)) ∙ ap (λ (m : ℕ). tabulate m (λ v. get_or (take n list) v 0)) (sym long) ∙ tabulate_get_or (take n list) 0) in
    rw (e, same, long) refl

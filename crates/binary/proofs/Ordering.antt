-- Laws of ordered words: how many they are, which stay, and when all do. Assumes nothing.
use mathlib.Core.Path.{◌≡◌, refl, sym, ◌∙◌, ap}
use mathlib.Core.List.{List, [], ◌∷◌}
use Prim.Native.Nat.{ℕ, zero, suc, ◌+◌, ◌*◌, ◌≤◌, ◌<◌, max, min}
use native.Mathlib.Omega.{arith}
use lib.ListN.{length, get_or, take, drop, length-drop, length-append, get_or-append}
use lib.Seq.{length-take-le, take-add, drop_at, get_or-take, get_or-drop}
use Rattle.circuit.specs.declared.Counts.{Counts}
use Rattle.circuit.specs.Table.{table_length, gates_at}
use Rattle.binary.specs.Ordered.{ordered_pairs, ordered, Ordered}

-- ---- pairs

pub length_pairs : (n : ℕ) (ws : List ℕ) → length (ordered_pairs n ws) ≡ 2 * n
unfolding ordered_pairs
length_pairs zero ws = refl
length_pairs (suc n) ws = omega (arith, length_pairs n (drop 2 ws))

pub pair_larger : (n i : ℕ) (ws : List ℕ) → i < n → get_or (ordered_pairs n ws) (2 * i) 0 ≡ max (get_or ws (2 * i) 0) (get_or ws (2 * i + 1) 0)
unfolding ordered_pairs
pair_larger zero i ws h = absurd (omega arith)
pair_larger (suc n) zero ws h = refl
pair_larger (suc n) (suc i) ws h =
    let e : 2 * suc i ≡ suc (suc (2 * i)) = omega arith in
    let f : 2 + 2 * i ≡ suc (suc (2 * i)) = omega arith in
    let g : 2 + (2 * i + 1) ≡ suc (suc (2 * i)) + 1 = omega arith in
    rw e (pair_larger n i (drop 2 ws) (omega arith) ∙ rw (get_or-drop 2 ws (2 * i) 0, get_or-drop 2 ws (2 * i + 1) 0, f, g))

pub pair_smaller : (n i : ℕ) (ws : List ℕ) → i < n → get_or (ordered_pairs n ws) (2 * i + 1) 0 ≡ min (get_or ws (2 * i) 0) (get_or ws (2 * i + 1) 0)
unfolding ordered_pairs
pair_smaller zero i ws h = absurd (omega arith)
pair_smaller (suc n) zero ws h = refl
pair_smaller (suc n) (suc i) ws h =
    let e : 2 * suc i ≡ suc (suc (2 * i)) = omega arith in
    let f : 2 + 2 * i ≡ suc (suc (2 * i)) = omega arith in
    let g : 2 + (2 * i + 1) ≡ suc (suc (2 * i)) + 1 = omega arith in
    let k : suc (suc (2 * i)) + 1 ≡ suc (suc (2 * i + 1)) = omega arith in
    rw (e, k) (pair_smaller n i (drop 2 ws) (omega arith) ∙ rw (get_or-drop 2 ws (2 * i) 0, get_or-drop 2 ws (2 * i + 1) 0, f, g, k))

-- ---- word by word

module _ (c : Counts) (table : List ℕ) (h : table_length c ≤ length table) where
  front : length (take (gates_at c) table) ≡ gates_at c
  front = length-take-le (gates_at c) table (omega arith)

  pub length_ordered : length (ordered c table) ≡ table_length c
  unfolding ordered
  length_ordered = simp length-append (omega (arith, front, length_pairs c.gates (drop (gates_at c) table)))

  -- latches and lamps as they are
  pub ordered_before : (i : ℕ) → i < gates_at c → get_or (ordered c table) i 0 ≡ get_or table i 0
  unfolding ordered
  ordered_before i k = get_or-append (take (gates_at c) table) _ 0 i (omega (arith, front)) ∙ get_or-take (gates_at c) table i 0 k

  behind : (i : ℕ) → get_or (ordered c table) (gates_at c + i) 0 ≡ get_or (ordered_pairs c.gates (drop (gates_at c) table)) i 0
  unfolding ordered
  behind i = sym (get_or-drop (gates_at c) (ordered c table) i 0) ∙ ap (λ (l : List ℕ). get_or l i 0) (drop_at (take (gates_at c) table) _ (gates_at c) front)

  -- each gate's larger operand first
  pub ordered_larger : (i : ℕ) → i < c.gates → get_or (ordered c table) (gates_at c + 2 * i) 0 ≡ max (get_or table (gates_at c + 2 * i) 0) (get_or table (gates_at c + 2 * i + 1) 0)
  ordered_larger i k =
      let e : gates_at c + (2 * i + 1) ≡ gates_at c + 2 * i + 1 = omega arith in
      behind (2 * i) ∙ pair_larger c.gates i (drop (gates_at c) table) k ∙ rw (get_or-drop (gates_at c) table (2 * i) 0, get_or-drop (gates_at c) table (2 * i + 1) 0, e)

  pub ordered_smaller : (i : ℕ) → i < c.gates → get_or (ordered c table) (gates_at c + 2 * i + 1) 0 ≡ min (get_or table (gates_at c + 2 * i) 0) (get_or table (gates_at c + 2 * i + 1) 0)
  ordered_smaller i k =
      let e : gates_at c + (2 * i + 1) ≡ gates_at c + 2 * i + 1 = omega arith in
      rw (← e) (behind (2 * i + 1) ∙ pair_smaller c.gates i (drop (gates_at c) table) k ∙ rw (get_or-drop (gates_at c) table (2 * i) 0, get_or-drop (gates_at c) table (2 * i + 1) 0))

  pub ordered_ordered : Ordered c (ordered c table)
  ordered_ordered = record { larger = λ i k. omega (arith, ordered_larger i k, ordered_smaller i k) }

-- ---- what is ordered stays

pairs_stay : (n : ℕ) (ws : List ℕ) → 2 * n ≤ length ws → ((i : ℕ) → i < n → get_or ws (2 * i + 1) 0 ≤ get_or ws (2 * i) 0) → ordered_pairs n ws ≡ take (2 * n) ws
unfolding ordered_pairs
pairs_stay zero ws h o = refl
pairs_stay (suc n) [] h o = absurd (omega arith)
pairs_stay (suc n) (a ∷ []) h o = absurd (omega arith)
pairs_stay (suc n) (a ∷ b ∷ ws) h o =
    let e : 2 * suc n ≡ suc (suc (2 * n)) = omega arith in
    let ba : b ≤ a = o 0 (omega arith) in
    let p : max a b ≡ a = omega arith in
    let q : min a b ≡ b = omega arith in
    let on = pairs_stay n ws (omega arith) (λ i k.
    let f : 2 * suc i + 1 ≡ suc (suc (2 * i + 1)) = omega arith in
    let g : 2 * suc i ≡ suc (suc (2 * i)) = omega arith in
    rw (f, g) at (o (suc i) (omega arith))) in
    rw (e, p, q, on)

pub ordered_stays : (c : Counts) (table : List ℕ) → table_length c ≤ length table → Ordered c table → ordered c table ≡ take (table_length c) table
unfolding ordered
ordered_stays c table h o =
    rw (
      pairs_stay c.gates (drop (gates_at c) table) (simp length-drop (omega arith)) (λ i k.
          let e : gates_at c + (2 * i + 1) ≡ gates_at c + 2 * i + 1 = omega arith in
          rw (get_or-drop, e, get_or-drop) (o.larger i k)),
      ← take-add,
    )

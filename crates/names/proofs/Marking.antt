-- Laws of giving the numbers one by one. Assumes nothing.
use mathlib.Core.Path.{◌≡◌, refl, sym, ap, ap₂, ◌∙◌}
use mathlib.Core.List.{List}
use Prim.Native.Nat.{ℕ, zero, suc, ◌+◌, ◌*◌, ◌-◌, ◌/◌, ◌<◌, ◌≤◌}
use native.Mathlib.Nat.{not-suc-le-zero}
use native.Mathlib.Omega.{arith}
use native.Mathlib.Decide.{dec_lt, ℕ_discrete}
use borrow.Author.Tests.{eqb-true, ltb-true, ltb-false, lt-ltb, le-ltb}
use lib.Dec.{ltb, eqb}
use lib.ListN.{length, get_or, set}
use lib.Seq.{get_or-set_same, get_or-set_other}
use Rattle.three.proofs.First.{first_holds}
use Rattle.three.proofs.Lists.{by_test}
use Rattle.drawn.specs.Drawing.{Drawing, leaves, lines, own, gate_at, line_at, place, name}
use Rattle.drawn.proofs.Proper.{Proper}
use Rattle.drawn.proofs.Naming.{line_small, name_line}
use Rattle.names.specs.Naming.{line_by, Followed, Of, Marked}

-- ---- the line of a number

pub line_of_leaf : (order : List ℕ) (leaves r : ℕ) → r < leaves → r ≡ line_by order leaves r
unfolding line_by
line_of_leaf order leaves r h = rw (line_by, lt-ltb r leaves h)

pub line_of_gate : (order : List ℕ) (leaves r : ℕ) → leaves ≤ r → leaves + get_or order (r - leaves) 0 ≡ line_by order leaves r
unfolding line_by
line_of_gate order leaves r h = rw (line_by, le-ltb r leaves h)

pub line_by_small : (owns order : List ℕ) (leaves gates r : ℕ) → Followed owns order leaves gates → r < leaves + gates → line_by order leaves r < leaves + gates
line_by_small owns order leaves gates r f h = go (dec_lt r leaves)
  where
    go : Dec (r < leaves) → line_by order leaves r < leaves + gates
    go (yes l) = omega (arith, line_of_leaf order leaves r l)
    go (no l) = let few = f.gates_few (r - leaves) (omega arith) in omega (arith, line_of_gate order leaves r (omega arith), few)

pub gate_line_small : (owns order : List ℕ) (leaves gates r : ℕ) → Followed owns order leaves gates → leaves ≤ r → r < leaves + gates → leaves + get_or order (r - leaves) 0 < 4096
gate_line_small owns order leaves gates r f l h = omega (arith, f.few, f.gates_few (r - leaves) (omega arith))

-- the variable of the line is in the working table
pub name_room : (owns order : List ℕ) (leaves gates r k : ℕ) → Followed owns order leaves gates → r < leaves + gates → k ≡ line_by order leaves r → get_or owns k 0 / 2 < 4096
name_room owns order leaves gates r k f h is_k =
    let small = f.small k (omega (arith, is_k, line_by_small owns order leaves gates r f h)) in
    omega (arith, small)

line_same : (d : Drawing) (owns order : List ℕ) (n gates r : ℕ) → Of d owns order n gates → r < n + gates → line_by order n r ≡ line_at d r
unfolding line_by line_at
line_same d owns order n gates r o h = by_test (ltb r n)
    (λ t. rw (line_by, line_at, o.leaves_same, t))
    (λ t. let l = ltb-false r n t in rw (line_by, line_at, o.leaves_same, t) (ap (λ (k : ℕ). n + k) (o.order_same (r - n) (omega arith)) ∙ ap (λ (m : ℕ). m + gate_at d (r - m)) (sym o.leaves_same)))

-- ---- the loop

pub marked_first : (d : Drawing) (names : List ℕ) → ((v : ℕ) → get_or names v 0 ≡ 0) → Marked d 0 names
marked_first d names z = record { none = λ v e s h. absurd (not-suc-le-zero h); some = λ v s e. absurd (omega (arith, z v, e)) }

module _ (d : Drawing) (p : Proper d) (owns order : List ℕ) (n gates : ℕ) (o : Of d owns order n gates) where
  pub marked_next : (r k x : ℕ) (names : List ℕ) → Marked d r names → r < n + gates → k ≡ line_by order n r → x ≡ get_or owns k 0 → x / 2 < length names
      → Marked d (r + 1) (set names (x / 2) (r + 1))
  marked_next r k x names m h is_k is_x room =
      let few : r < lines d = omega (arith, h, o.leaves_same, o.gates_same) in
      let is_own : x ≡ own d (line_at d r) = is_x ∙ ap₂ (λ (l : List ℕ) (k : ℕ). get_or l k 0) (sym o.owns_same) (is_k ∙ line_same d owns order n gates r o h) in
      let even = p.owned.even (line_at d r) (line_small d p r few) in
      record {
        none = λ v z s l q. none_next v (ℕ_discrete v (x / 2)) z s l q is_own even;
        some = λ v s z. some_next v (ℕ_discrete v (x / 2)) s z is_own even;
      }
    where
      new : (v : ℕ) → v ≡ x / 2 → get_or (set names (x / 2) (r + 1)) v 0 ≡ r + 1
      new v e = ap (λ (k : ℕ). get_or (set names (x / 2) (r + 1)) k 0) e ∙ get_or-set_same names (x / 2) (r + 1) 0 room

      none_next : (v : ℕ) → Dec (v ≡ x / 2) → get_or (set names (x / 2) (r + 1)) v 0 ≡ 0 → (s : ℕ) → s < r + 1 → own d (line_at d s) ≡ 2 * v → x ≡ own d (line_at d r) → own d (line_at d r) ≡ 2 * (own d (line_at d r) / 2) → ⊥
      none_next v (yes t) z s l q is even = omega (arith, new v t, z)
      none_next v (no t) z s l q is even = older (dec_lt s r)
        where
          older : Dec (s < r) → ⊥
          older (yes a) = m.none v (sym (get_or-set_other names (x / 2) v (r + 1) 0 t) ∙ z) s a q
          older (no a) = let same : s ≡ r = omega arith in t (omega (arith, is, q, ap (λ (k : ℕ). own d (line_at d k)) same))

      some_next : (v : ℕ) → Dec (v ≡ x / 2) → (s : ℕ) → get_or (set names (x / 2) (r + 1)) v 0 ≡ suc s → x ≡ own d (line_at d r) → own d (line_at d r) ≡ 2 * (own d (line_at d r) / 2) → (s < r + 1) × (own d (line_at d s) ≡ 2 * v)
      some_next v (yes t) s z is even =
          let same : s ≡ r = omega (arith, new v t, z) in
          (omega (arith, same), ap (λ (k : ℕ). own d (line_at d k)) same ∙ omega (arith, is, even, t))
      some_next v (no t) s z is even = let old = m.some v s (sym (get_or-set_other names (x / 2) v (r + 1) 0 t) ∙ z) in (omega (arith, old.0), old.1)

  no_name : (v : ℕ) → ((s : ℕ) → s < lines d → own d (line_at d s) ≡ 2 * v → ⊥) → 0 ≡ name d v
  unfolding name place
  no_name v h = by_test (ltb (place d v) (lines d))
      (λ t. absurd (let l = ltb-true (place d v) (lines d) t in h (place d v) l (eqb-true (own d (line_at d (place d v))) (2 * v) (first_holds (lines d) (λ s. eqb (own d (line_at d s)) (2 * v)) l))))
      (λ t. rw (name, t))

  pub marked_last : (r : ℕ) (names : List ℕ) → Marked d r names → r ≡ n + gates → (v : ℕ) → get_or names v 0 ≡ name d v
  marked_last r names m h v = go (get_or names v 0) refl
    where
      all : r ≡ lines d
      all = omega (arith, h, o.leaves_same, o.gates_same)

      go : (k : ℕ) → get_or names v 0 ≡ k → get_or names v 0 ≡ name d v
      go zero z = z ∙ no_name v (λ s l q. m.none v z s (omega (arith, l, all)) q)
      go (suc s) z = let f = m.some v s z in z ∙ sym (name_line d p v s (omega (arith, f.0, all)) f.1)

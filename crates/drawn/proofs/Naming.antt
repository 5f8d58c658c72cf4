-- The new numbers: each line has one, a defined variable's is its line's, and a gate's operands come before it. Assumes nothing.
use mathlib.Core.Path.{◌≡◌, refl, sym, ap, ◌∙◌}
use mathlib.Core.Logic.{inl, inr}
use Prim.Native.Nat.{ℕ, zero, suc, ◌+◌, ◌*◌, ◌-◌, ◌/◌, ◌<◌, ◌≤◌}
use native.Mathlib.Omega.{arith}
use native.Mathlib.Decide.{dec_lt}
use borrow.Author.Tests.{ltb-true, ltb-false, eqb-true, lt-ltb, le-ltb, eq-eqb}
use lib.Dec.{ltb, eqb}
use lib.ListN.{length}
use Rattle.three.proofs.First.{first_holds, first_only}
use Rattle.three.proofs.Lists.{by_test}
use Rattle.drawn.specs.Depth.{gate, deep, order}
use Rattle.drawn.specs.DepthInCode.{Reads}
use Rattle.drawn.specs.Drawing.{Drawing, leaves, lines, own, left, right, source, left_source, right_source, gate_order, gate_at, line_at, place, name}
use Rattle.drawn.proofs.Sorting.{Before, ranked_apart, Sorted, sorts}
use Rattle.drawn.proofs.Loops.{reads_lower}
use Rattle.drawn.proofs.Proper.{Defined, constant, line, Proper, own_same, source_gate}

module _ (d : Drawing) (p : Proper d) where
  abbrev gates : ℕ
  gates = d.counts.gates

  abbrev depth_of : ℕ → ℕ
  depth_of = deep (left_source d) (right_source d) gates

  -- ---- the gates stand by depth, those of equal depth in file order

  pub gates_sorted : Sorted gates depth_of (gate_order d)
  unfolding gate_order order
  gates_sorted = sorts gates depth_of (suc gates) (λ i h. omega (arith, p.shallow i h))

  pub gate_small : (q : ℕ) → q < gates → gate_at d q < gates
  gate_small q h = gates_sorted.small q h

  -- an operand that is a gate stands in front
  pub operand_before : (q k : ℕ) → q < gates → Reads (left_source d) (right_source d) (gate_at d q) k → k < gates → (r : ℕ) × (r < q) × (gate_at d r ≡ k)
  unfolding deep
  operand_before q k h reads few =
      let s = gates_sorted.stands k few in
      let lower : depth_of k < depth_of (gate_at d q) = reads_lower (left_source d) (right_source d) (suc gates) reads (omega (arith, p.shallow (gate_at d q) (gate_small q h))) in
      (s.at, earlier s.at s.within s.is lower, s.is)
    where
      earlier : (r : ℕ) → r < length (gate_order d) → gate_at d r ≡ k → depth_of k < depth_of (gate_at d q) → r < q
      earlier r w e lower = by_test (ltb r q)
          (λ a. ltb-true r q a)
          (λ a. by_test (ltb q r)
          (λ b. absurd (later (rw e at (gates_sorted.ranked q r (ltb-true q r b) w)) lower))
          (λ b. absurd (let same : r ≡ q = omega (arith, ltb-false r q a, ltb-false q r b) in omega (arith, lower, ap (λ (n : ℕ). depth_of n) (sym e ∙ ap (gate_at d) same)))))
        where
          later : Before gates depth_of (gate_at d q) k → depth_of k < depth_of (gate_at d q) → ⊥
          later (inl a) l = omega (arith, a, l)
          later (inr a) l = omega (arith, a.0, l)

  pub gates_same : (q r : ℕ) → q < gates → r < gates → gate_at d q ≡ gate_at d r → q ≡ r
  gates_same q r h k e =
      let s = gates_sorted in
      by_test (ltb q r)
      (λ a. absurd (ranked_apart gates depth_of (gate_order d) s.ranked q r (ltb-true q r a) (rw s.long k) e))
      (λ a. by_test (ltb r q)
      (λ b. absurd (ranked_apart gates depth_of (gate_order d) s.ranked r q (ltb-true r q b) (rw s.long h) (sym e)))
      (λ b. omega (arith, ltb-false q r a, ltb-false r q b)))

  -- ---- the line with each number

  pub line_leaf : (r : ℕ) → r < leaves d → line_at d r ≡ r
  unfolding line_at
  line_leaf r h = rw (line_at, lt-ltb r (leaves d) h)

  pub line_gate : (q : ℕ) → line_at d (leaves d + q) ≡ leaves d + gate_at d q
  unfolding line_at
  line_gate q =
      let e : leaves d + q - leaves d ≡ q = omega arith in
      rw (line_at, le-ltb (leaves d + q) (leaves d) (omega arith)) (ap (λ (n : ℕ). leaves d + gate_at d n) e)

  -- a number is an input's or a latch's, or a gate's
  pub data Numbered (r : ℕ) : Type 0 where
    of_leaf : r < leaves d → line_at d r ≡ r → Numbered r
    of_gate : (q : ℕ) → r ≡ leaves d + q → q < gates → line_at d r ≡ leaves d + gate_at d q → Numbered r

  pub numbered : (r : ℕ) → r < lines d → Numbered r
  numbered r h = go (dec_lt r (leaves d))
    where
      go : Dec (r < leaves d) → Numbered r
      go (yes l) = of_leaf l (line_leaf r l)
      go (no l) =
          let e : leaves d + (r - leaves d) ≡ r = omega arith in
          of_gate (r - leaves d) (sym e) (omega arith) (ap (line_at d) (sym e) ∙ line_gate (r - leaves d))

  pub line_small : (r : ℕ) → r < lines d → line_at d r < lines d
  line_small r h = go (numbered r h)
    where
      go : Numbered r → line_at d r < lines d
      go (of_leaf l e) = omega (arith, e)
      go (of_gate q e l f) = omega (arith, f, gate_small q l)

  line_same : (r s : ℕ) → r < lines d → s < lines d → line_at d r ≡ line_at d s → r ≡ s
  line_same r s h k e = go (numbered r h) (numbered s k)
    where
      go : Numbered r → Numbered s → r ≡ s
      go (of_leaf l f) (of_leaf m g) = sym f ∙ e ∙ g
      go (of_leaf l f) (of_gate q x m g) = absurd (omega (arith, e, f, g))
      go (of_gate q x l f) (of_leaf m g) = absurd (omega (arith, e, f, g))
      go (of_gate q x l f) (of_gate t y m g) =
          let same : gate_at d q ≡ gate_at d t = omega (arith, e, f, g) in
          x ∙ ap (λ (n : ℕ). leaves d + n) (gates_same q t l m same) ∙ sym y

  -- ---- the number of each variable

  pub name_line : (v r : ℕ) → r < lines d → own d (line_at d r) ≡ 2 * v → name d v ≡ suc r
  unfolding name
  name_line v r h e =
      let f : place d v ≡ r = placed in
      rw (name, lt-ltb (place d v) (lines d) (omega (arith, f, h))) (ap suc f)
    where
      placed : place d v ≡ r
      placed = unfold place in first_only (lines d) (λ s. eqb (own d (line_at d s)) (2 * v)) r h (eq-eqb (own d (line_at d r)) (2 * v) e)
          (λ s k t. line_same s r k h (own_same d p.owned (line_at d s) (line_at d r) (line_small s k) (line_small r h) (eqb-true (own d (line_at d s)) (2 * v) t ∙ sym e)))

  pub name_zero : name d 0 ≡ 0
  unfolding name place
  name_zero = by_test (ltb (place d 0) (lines d))
      (λ h. absurd (
      let l = ltb-true (place d 0) (lines d) h in
      let e = eqb-true (own d (line_at d (place d 0))) (2 * 0) (first_holds (lines d) (λ s. eqb (own d (line_at d s)) (2 * 0)) l) in
      omega (arith, e, p.owned.large (line_at d (place d 0)) (line_small (place d 0) l))))
      (λ h. rw (name, h))

  -- the old variable of each new one
  unfoldable pub old : ℕ → ℕ
  old zero = 0
  old (suc r) = own d (line_at d r) / 2

  -- The number of a literal's variable
  pub record Named (x : ℕ) : Type 0 where
    pub few : name d (x / 2) ≤ lines d
    pub back : old (name d (x / 2)) ≡ x / 2

  named_zero : (v : ℕ) → v ≡ 0 → (name d v ≤ lines d) × (old (name d v) ≡ v)
  unfolding old
  named_zero v e = rw (e, name_zero) (omega arith, refl)

  named_line : (v r : ℕ) → r < lines d → own d (line_at d r) ≡ 2 * v → (name d v ≤ lines d) × (old (name d v) ≡ v)
  unfolding old
  named_line v r h e = rw (name_line v r h e) (omega arith, omega (arith, e))

  -- every line has a number
  pub line_of : (k : ℕ) → k < lines d → (r : ℕ) × (r < lines d) × (line_at d r ≡ k)
  line_of k h = go (dec_lt k (leaves d))
    where
      go : Dec (k < leaves d) → (r : ℕ) × (r < lines d) × (line_at d r ≡ k)
      go (yes l) = (k, h, line_leaf k l)
      go (no l) =
          let s = gates_sorted.stands (k - leaves d) (omega arith) in
          (leaves d + s.at, omega (arith, s.within, gates_sorted.long), line_gate s.at ∙ ap (λ (n : ℕ). leaves d + n) s.is ∙ omega arith)

  pub named : (x : ℕ) → Defined d x → Named x
  named x (constant z) = let n = named_zero (x / 2) z in record { few = n.0; back = n.1 }
  named x (line k h e) =
      let r = line_of k h in
      let n = named_line (x / 2) r.0 r.1 (rw r.2 e) in
      record { few = n.0; back = n.1 }

  -- ---- the operands of a gate have smaller numbers

  pub operand_named : (q x : ℕ) → q < gates → ((k : ℕ) → source d (x / 2) ≡ gate k → Reads (left_source d) (right_source d) (gate_at d q) k)
      → Defined d x → name d (x / 2) ≤ leaves d + q
  operand_named q x h reads (constant z) = let e : name d (x / 2) ≡ 0 = ap (name d) z ∙ name_zero in omega (arith, e)
  operand_named q x h reads (line k l e) = go (dec_lt k (leaves d))
    where
      go : Dec (k < leaves d) → name d (x / 2) ≤ leaves d + q
      go (yes m) = let n : name d (x / 2) ≡ suc k = name_line (x / 2) k l (ap (own d) (line_leaf k m) ∙ e) in omega (arith, n)
      go (no m) =
          let place : leaves d + (k - leaves d) ≡ k = omega arith in
          let own_is : own d (leaves d + (k - leaves d)) ≡ 2 * (x / 2) = ap (own d) place ∙ e in
          let from = source_gate d p.owned (x / 2) (k - leaves d) (omega arith) own_is in
          let r = operand_before q (k - leaves d) h (reads (k - leaves d) from) (omega arith) in
          let n : name d (x / 2) ≡ suc (leaves d + r.0) = name_line (x / 2) (leaves d + r.0) (omega (arith, r.1)) (ap (own d) (line_gate r.0 ∙ ap (λ (n : ℕ). leaves d + n) r.2) ∙ own_is) in
          omega (arith, n, r.1)

  pub left_named : (q : ℕ) → q < gates → name d (left d (gate_at d q) / 2) ≤ leaves d + q
  left_named q h = operand_named q (left d (gate_at d q)) h (λ k e. inl e) (p.lefts (gate_at d q) (gate_small q h))

  pub right_named : (q : ℕ) → q < gates → name d (right d (gate_at d q) / 2) ≤ leaves d + q
  right_named q h = operand_named q (right d (gate_at d q)) h (λ k e. inr e) (p.rights (gate_at d q) (gate_small q h))

-- Laws of the entries when all lines are entered: which literals are defined, and which gate an operand is. Assumes nothing.
use mathlib.Core.Path.{◌≡◌, refl, sym, ap, ◌∙◌}
use mathlib.Core.Bool.{true, false, not}
use mathlib.Core.List.{List, ◌++◌}
use Prim.Native.Nat.{ℕ, zero, suc, ◌+◌, ◌*◌, ◌-◌, ◌/◌, ◌<◌, ◌≤◌}
use native.Mathlib.Nat.{not-suc-le-zero}
use native.Mathlib.Omega.{arith}
use native.Mathlib.Decide.{dec_lt}
use borrow.Author.Tests.{eqb-true, eqb-false, eq-eqb, ne_eqb, lt-ltb, ltb-true}
use lib.Dec.{ltb, eqb}
use lib.ListN.{length, get_or, set, get_or-append}
use lib.Seq.{get_or-set_same, get_or-set_other}
use Rattle.three.specs.Lists.{first}
use Rattle.three.proofs.First.{first_finds, first_holds}
use Rattle.three.proofs.Lists.{by_test, every_all}
use Rattle.drawn.specs.Depth.{leaf}
use Rattle.drawn.specs.Drawing.{Drawing, leaves, lines, own, once, defined, gate_of, source}
use Rattle.drawn.proofs.Proper.{Owned, owned_holds, source_gate, own_same}
use Rattle.order.specs.Walk.{source_of}
use Rattle.defined.specs.Places.{Entered, Sourced}

module _ (d : Drawing) (places : List ℕ) (e : Entered d (lines d) places) where
  owned : Owned d
  owned = owned_holds d (every_all (lines d) (once d) e.good)

  -- ---- 21

  pub constant_defined : (x : ℕ) → x / 2 ≡ 0 → true ≡ defined d x
  unfolding defined
  constant_defined x z = rw (eq-eqb (x / 2) 0 z)

  pub entry_defined : (x : ℕ) → (x / 2 ≡ 0 → ⊥) → (get_or places (x / 2) 0 ≡ 0 → ⊥) → true ≡ defined d x
  unfolding defined
  entry_defined x n h = rw (ne_eqb (x / 2) 0 n) (sym (go (get_or places (x / 2) 0) refl))
    where
      go : (p : ℕ) → get_or places (x / 2) 0 ≡ p → ltb (first (lines d) (λ k. eqb (own d k) (2 * (x / 2)))) (lines d) ≡ true
      go zero z = absurd (h z)
      go (suc j) z =
          let s = e.some (x / 2) j z in
          let f = first_finds (lines d) (λ k. eqb (own d k) (2 * (x / 2))) j s.0 (eq-eqb (own d j) (2 * (x / 2)) s.1) in
          lt-ltb (first (lines d) (λ k. eqb (own d k) (2 * (x / 2)))) (lines d) (omega (arith, f, s.0))

  pub entry_undefined : (x : ℕ) → (x / 2 ≡ 0 → ⊥) → get_or places (x / 2) 0 ≡ 0 → false ≡ defined d x
  unfolding defined
  entry_undefined x n z = rw (ne_eqb (x / 2) 0 n) (sym (by_test (ltb (first (lines d) (λ k. eqb (own d k) (2 * (x / 2)))) (lines d))
      (λ t. absurd (
      let l = ltb-true (first (lines d) (λ k. eqb (own d k) (2 * (x / 2)))) (lines d) t in
      e.none (x / 2) z (first (lines d) (λ k. eqb (own d k) (2 * (x / 2)))) l (eqb-true (own d (first (lines d) (λ k. eqb (own d k) (2 * (x / 2))))) (2 * (x / 2)) (first_holds (lines d) (λ k. eqb (own d k) (2 * (x / 2))) l))))
      (λ t. t)))

  -- ---- sources

  -- no gate's line is entered for the variable
  leaf_source : (v : ℕ) → ((i : ℕ) → i < d.counts.gates → own d (leaves d + i) ≡ 2 * v → ⊥) → source d v ≡ leaf
  unfolding source gate_of
  leaf_source v h = by_test (ltb (gate_of d v) d.counts.gates)
      (λ t. absurd (let l = ltb-true (gate_of d v) d.counts.gates t in
      h (gate_of d v) l (eqb-true (own d (leaves d + gate_of d v)) (2 * v) (first_holds d.counts.gates (λ i. eqb (own d (leaves d + i)) (2 * v)) l))))
      (λ t. rw (source, t))

  pub entry_leaf : (v : ℕ) → get_or places v 0 ≤ leaves d → source_of 0 ≡ source d v
  unfolding source_of
  entry_leaf v h = sym (leaf_source v (λ i few q. go (get_or places v 0) refl i few q))
    where
      go : (p : ℕ) → get_or places v 0 ≡ p → (i : ℕ) → i < d.counts.gates → own d (leaves d + i) ≡ 2 * v → ⊥
      go zero z i few q = e.none v z (leaves d + i) (omega arith) q
      go (suc j) z i few q =
          let s = e.some v j z in
          let same : j ≡ leaves d + i = own_same d owned j (leaves d + i) s.0 (omega arith) (s.1 ∙ sym q) in
          omega (arith, same, z, h)

  pub entry_gate : (v : ℕ) → leaves d < get_or places v 0 → source_of (get_or places v 0 - leaves d) ≡ source d v
  unfolding source_of
  entry_gate v h = go (get_or places v 0) refl
    where
      go : (p : ℕ) → get_or places v 0 ≡ p → source_of (get_or places v 0 - leaves d) ≡ source d v
      go zero z = absurd (omega (arith, z, h))
      go (suc j) z =
          let s = e.some v j z in
          let code : get_or places v 0 - leaves d ≡ suc (j - leaves d) = omega (arith, z, h) in
          let there : leaves d + (j - leaves d) ≡ j = omega (arith, z, h) in
          rw code (sym (source_gate d owned v (j - leaves d) (omega (arith, s.0, there)) (ap (own d) there ∙ s.1)))

  -- a gate's code is at most the number of gates
  pub entry_small : (v : ℕ) → get_or places v 0 ≤ lines d
  entry_small v = go (get_or places v 0) refl
    where
      go : (p : ℕ) → get_or places v 0 ≡ p → p ≤ lines d
      go zero z = omega arith
      go (suc j) z = (e.some v j z).0

  -- ---- as the code answers them

  pub known_constant : (x : ℕ) → x / 2 ≡ 0 → eqb (x / 2) 0 ≡ defined d x
  known_constant x z = eq-eqb (x / 2) 0 z ∙ constant_defined x z

  pub known_entry : (x : ℕ) → (x / 2 ≡ 0 → ⊥) → not (eqb (get_or places (x / 2) 0) 0) ≡ defined d x
  known_entry x n = by_test (eqb (get_or places (x / 2) 0) 0)
      (λ t. ap not t ∙ entry_undefined x n (eqb-true (get_or places (x / 2) 0) 0 t))
      (λ t. ap not t ∙ entry_defined x n (eqb-false (get_or places (x / 2) 0) 0 t))

  pub source_leaf : (x n : ℕ) → leaves d ≡ n → get_or places (x / 2) 0 ≤ n → (source_of 0 ≡ source d (x / 2)) × (0 ≤ d.counts.gates)
  source_leaf x n few h = (entry_leaf (x / 2) (omega (arith, few, h)), omega arith)

  pub source_some : (x n : ℕ) → leaves d ≡ n → n < get_or places (x / 2) 0 → (source_of (get_or places (x / 2) 0 - n) ≡ source d (x / 2)) × (get_or places (x / 2) 0 - n ≤ d.counts.gates)
  source_some x n few h = rw (← few) (entry_gate (x / 2) (omega (arith, few, h)), omega (arith, entry_small (x / 2), few))

-- ---- the loop over the operands

pub sourced_first : (d : Drawing) (words : List ℕ) (at : ℕ) (out : List ℕ) → Sourced d words at 0 out
sourced_first d words at out = record { same = λ k h. absurd (not-suc-le-zero h); small = λ k h. absurd (not-suc-le-zero h) }

pub sourced_next : (d : Drawing) (words : List ℕ) (at i : ℕ) (out : List ℕ) (r : ℕ) → Sourced d words at i out → i < length out
    → (source_of r ≡ source d (get_or words (at + 2 * i) 0 / 2)) × (r ≤ d.counts.gates) → Sourced d words at (i + 1) (set out i r)
sourced_next d words at i out r s room is = record { same = λ k h. same_next k (dec_lt k i) h; small = λ k h. small_next k (dec_lt k i) h }
  where
    before : (k : ℕ) → k < i → get_or (set out i r) k 0 ≡ get_or out k 0
    before k l = get_or-set_other out i k r 0 (λ q. omega arith)

    here : (k : ℕ) → k ≡ i → get_or (set out i r) k 0 ≡ r
    here k e = ap (λ (n : ℕ). get_or (set out i r) n 0) e ∙ get_or-set_same out i r 0 room

    same_next : (k : ℕ) → Dec (k < i) → k < i + 1 → source_of (get_or (set out i r) k 0) ≡ source d (get_or words (at + 2 * k) 0 / 2)
    same_next k (yes l) h = ap source_of (before k l) ∙ s.same k l
    same_next k (no l) h = let e : k ≡ i = omega arith in ap source_of (here k e) ∙ is.0 ∙ ap (λ (n : ℕ). source d (get_or words (at + 2 * n) 0 / 2)) (sym e)

    small_next : (k : ℕ) → Dec (k < i) → k < i + 1 → get_or (set out i r) k 0 ≤ d.counts.gates
    small_next k (yes l) h = omega (arith, before k l, s.small k l)
    small_next k (no l) h = let e : k ≡ i = omega arith in omega (arith, here k e, is.1)

pub sourced_last : (d : Drawing) (words : List ℕ) (at count i : ℕ) (out behind : List ℕ) → Sourced d words at i out → count ≤ i → count ≤ length out → Sourced d words at count (out ++ behind)
sourced_last d words at count i out behind s h long = record {
  same = λ k l. rw (get_or-append out behind 0 k (omega arith)) (s.same k (omega arith));
  small = λ k l. rw (get_or-append out behind 0 k (omega arith)) (s.small k (omega arith));
}

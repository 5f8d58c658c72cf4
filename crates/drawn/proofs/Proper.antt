-- What 20, 21 and 22 leave: own literals that differ, literals that are defined, gates that have a depth. Assumes nothing.
use mathlib.Core.Path.{◌≡◌, sym, ap, ◌∙◌}
use mathlib.Core.Bool.{true, not}
use Prim.Native.Nat.{ℕ, ◌+◌, ◌*◌, ◌/◌, ◌%◌, ◌<◌, ◌≤◌}
use native.Mathlib.Omega.{arith}
use borrow.Author.Tests.{ltb-true, ltb-false, leb-true, eqb-true, eqb-false, not-true, lt-ltb, le-leb, eq-eqb, ne_eqb}
use lib.Dec.{leb, ltb, eqb}
use Rattle.three.specs.Lists.{every, first}
use Rattle.three.proofs.First.{first_finds, first_holds, first_only}
use Rattle.three.proofs.Lists.{by_test, and_parts, every_at, every_all}
use Rattle.drawn.specs.Depth.{leaf, gate, deep, loopless}
use Rattle.drawn.specs.Drawing.{Drawing, leaves, lines, own, next_literal, single, left, right, gate_of, source, left_source, right_source, once, defined, all_defined, drawing_tests}
use Rattle.circuit.specs.RulesInCode.{Passed}
use Rattle.circuit.specs.Table.{literals}

module _ (d : Drawing) where
  -- A literal's variable is 0 or some line's
  pub data Defined (x : ℕ) : Type 0 where
    constant : x / 2 ≡ 0 → Defined x
    line : (k : ℕ) → k < lines d → own d k ≡ 2 * (x / 2) → Defined x

  -- Own literals that 20 does not refuse
  pub record Owned : Type 0 where
    pub even : (k : ℕ) → k < lines d → own d k ≡ 2 * (own d k / 2)
    pub large : (k : ℕ) → k < lines d → 2 ≤ own d k
    pub small : (k : ℕ) → k < lines d → own d k ≤ 2 * d.most + 1
    pub apart : (j k : ℕ) → j < k → k < lines d → own d j ≡ own d k → ⊥

  -- A drawing that 20, 21 and 22 do not refuse
  pub record Proper : Type 0 where
    pub owned : Owned
    pub next : (i : ℕ) → i < d.counts.latches → Defined (next_literal d i)
    pub singles : (i : ℕ) → i < literals d.counts → Defined (single d i)
    pub lefts : (i : ℕ) → i < d.counts.gates → Defined (left d i)
    pub rights : (i : ℕ) → i < d.counts.gates → Defined (right d i)
    pub shallow : (i : ℕ) → i < d.counts.gates → deep (left_source d) (right_source d) d.counts.gates i ≤ d.counts.gates

  -- ---- 20

  record Once (k : ℕ) : Type 0 where
    even : own d k ≡ 2 * (own d k / 2)
    large : 2 ≤ own d k
    small : own d k ≤ 2 * d.most + 1
    apart : (j : ℕ) → j < k → own d j ≡ own d k → ⊥

  once_holds : (k : ℕ) → once d k ≡ true → Once k
  unfolding once
  once_holds k e =
      let a = and_parts (eqb (own d k % 2) 0) _ e in
      let b = and_parts (leb 2 (own d k)) _ a.1 in
      let c = and_parts (leb (own d k) (2 * d.most + 1)) _ b.1 in
      let z = eqb-true (own d k % 2) 0 a.0 in
      record {
        even = omega (arith, z);
        large = leb-true 2 (own d k) b.0;
        small = leb-true (own d k) (2 * d.most + 1) c.0;
        apart = λ j h. eqb-false (own d j) (own d k) (not-true (eqb (own d j) (own d k)) (every_at k (λ j. not (eqb (own d j) (own d k))) c.1 j h));
      }

  holds_once : (k : ℕ) → Once k → once d k ≡ true
  unfolding once
  holds_once k o =
      let apart : every k (λ j. not (eqb (own d j) (own d k))) ≡ true = every_all k (λ j. not (eqb (own d j) (own d k))) (λ j h. ap not (ne_eqb (own d j) (own d k) (o.apart j h))) in
      rw (eq-eqb (own d k % 2) 0 (omega (arith, o.even)), le-leb 2 (own d k) o.large, le-leb (own d k) (2 * d.most + 1) o.small) apart

  pub owned_holds : every (lines d) (once d) ≡ true → Owned
  owned_holds e =
      let o : (k : ℕ) → k < lines d → Once k = λ k h. once_holds k (every_at (lines d) (once d) e k h) in
      record { even = λ k h. (o k h).even; large = λ k h. (o k h).large; small = λ k h. (o k h).small; apart = λ j k l h. (o k h).apart j l }

  holds_owned : Owned → every (lines d) (once d) ≡ true
  holds_owned p = every_all (lines d) (once d) (λ k h. holds_once k (record { even = p.even k h; large = p.large k h; small = p.small k h; apart = λ j l. p.apart j k l h }))

  -- ---- 21

  defined_holds : (x : ℕ) → defined d x ≡ true → Defined x
  unfolding defined
  defined_holds x e = by_test (eqb (x / 2) 0)
      (λ z. constant (eqb-true (x / 2) 0 z))
      (λ z. let l = ltb-true (first (lines d) (λ k. eqb (own d k) (2 * (x / 2)))) (lines d) (rw z at e) in
      line (first (lines d) (λ k. eqb (own d k) (2 * (x / 2)))) l (eqb-true (own d (first (lines d) (λ k. eqb (own d k) (2 * (x / 2))))) (2 * (x / 2)) (first_holds (lines d) (λ k. eqb (own d k) (2 * (x / 2))) l)))

  holds_defined : (x : ℕ) → Defined x → defined d x ≡ true
  unfolding defined
  holds_defined x (constant z) = rw (eq-eqb (x / 2) 0 z)
  holds_defined x (line k h e) =
      let f = first_finds (lines d) (λ k. eqb (own d k) (2 * (x / 2))) k h (eq-eqb (own d k) (2 * (x / 2)) e) in
      let t : ltb (first (lines d) (λ k. eqb (own d k) (2 * (x / 2)))) (lines d) ≡ true = lt-ltb (first (lines d) (λ k. eqb (own d k) (2 * (x / 2)))) (lines d) (omega (arith, f, h)) in
      by_test (eqb (x / 2) 0) (λ z. rw z) (λ z. rw (z, t))

  -- ---- all three

  pub proper : Passed (drawing_tests d) → Proper
  unfolding drawing_tests all_defined loopless
  proper p =
      let a = and_parts (every d.counts.latches (λ i. defined d (next_literal d i))) _ p.1.0 in
      let b = and_parts (every (literals d.counts) (λ i. defined d (single d i))) _ a.1 in
      let c = and_parts (every d.counts.gates (λ i. defined d (left d i))) (every d.counts.gates (λ i. defined d (right d i))) b.1 in
      record {
        owned = owned_holds p.0;
        next = λ i h. defined_holds (next_literal d i) (every_at d.counts.latches (λ i. defined d (next_literal d i)) a.0 i h);
        singles = λ i h. defined_holds (single d i) (every_at (literals d.counts) (λ i. defined d (single d i)) b.0 i h);
        lefts = λ i h. defined_holds (left d i) (every_at d.counts.gates (λ i. defined d (left d i)) c.0 i h);
        rights = λ i h. defined_holds (right d i) (every_at d.counts.gates (λ i. defined d (right d i)) c.1 i h);
        shallow = λ i h. leb-true (deep (left_source d) (right_source d) d.counts.gates i) d.counts.gates
            (every_at d.counts.gates (λ i. leb (deep (left_source d) (right_source d) d.counts.gates i) d.counts.gates) p.1.1.0 i h);
      }

  pub proper_passed : Proper → Passed (drawing_tests d)
  unfolding drawing_tests all_defined loopless
  proper_passed p = (
    holds_owned p.owned,
    (
      rw (
        every_all d.counts.latches (λ i. defined d (next_literal d i)) (λ i h. holds_defined (next_literal d i) (p.next i h)),
        every_all (literals d.counts) (λ i. defined d (single d i)) (λ i h. holds_defined (single d i) (p.singles i h)),
        every_all d.counts.gates (λ i. defined d (left d i)) (λ i h. holds_defined (left d i) (p.lefts i h)),
        every_all d.counts.gates (λ i. defined d (right d i)) (λ i h. holds_defined (right d i) (p.rights i h)),
      ),
      (
        every_all d.counts.gates (λ i. leb (deep (left_source d) (right_source d) d.counts.gates i) d.counts.gates)
            (λ i h. le-leb (deep (left_source d) (right_source d) d.counts.gates i) d.counts.gates (p.shallow i h)),
        tt,
      ),
    ),
  )

  -- ---- sources

  gate_same : {i k : ℕ} → gate i ≡ gate k → i ≡ k
  gate_same e = cc

  leaf_gate : {k : ℕ} → leaf ≡ gate k → ⊥
  leaf_gate e = let z : ◌≡◌ {A = ℕ} 0 1 = cc in omega arith

  pub source_below : (v k : ℕ) → source d v ≡ gate k → k < d.counts.gates
  unfolding source
  source_below v k e = by_test (ltb (gate_of d v) d.counts.gates)
      (λ h. let same : gate_of d v ≡ k = gate_same (rw (source, h) at e) in omega (arith, ltb-true (gate_of d v) d.counts.gates h, same))
      (λ h. absurd (leaf_gate (rw (source, h) at e)))

  pub own_same : Owned → (j k : ℕ) → j < lines d → k < lines d → own d j ≡ own d k → j ≡ k
  own_same p j k g h q = by_test (ltb j k)
      (λ a. absurd (p.apart j k (ltb-true j k a) h q))
      (λ a. by_test (ltb k j)
      (λ b. absurd (p.apart k j (ltb-true k j b) g (sym q)))
      (λ b. omega (arith, ltb-false j k a, ltb-false k j b)))

  gate_of_lem : Owned → (v i : ℕ) → i < d.counts.gates → own d (leaves d + i) ≡ 2 * v → gate_of d v ≡ i
  unfolding gate_of
  gate_of_lem p v i h e = first_only d.counts.gates (λ i. eqb (own d (leaves d + i)) (2 * v)) i h (eq-eqb (own d (leaves d + i)) (2 * v) e)
      (λ k l t. let q = own_same p (leaves d + k) (leaves d + i) (omega arith) (omega arith) (eqb-true (own d (leaves d + k)) (2 * v) t ∙ sym e) in omega (arith, q))

  -- the variable of a gate's line has that gate as its source
  pub source_gate : Owned → (v i : ℕ) → i < d.counts.gates → own d (leaves d + i) ≡ 2 * v → source d v ≡ gate i
  unfolding source
  source_gate p v i h e = let g = gate_of_lem p v i h e in rw (source, lt-ltb (gate_of d v) d.counts.gates (omega (arith, g, h))) (ap gate g)

  -- and a source that is a gate is that of the variable's line
  pub source_own : (v k : ℕ) → source d v ≡ gate k → own d (leaves d + k) ≡ 2 * v
  unfolding source gate_of
  source_own v k e = by_test (ltb (gate_of d v) d.counts.gates)
      (λ h. let same : gate_of d v ≡ k = gate_same (rw (source, h) at e) in
      rw (← same) (eqb-true (own d (leaves d + gate_of d v)) (2 * v) (first_holds d.counts.gates (λ i. eqb (own d (leaves d + i)) (2 * v)) (ltb-true (gate_of d v) d.counts.gates h))))
      (λ h. absurd (leaf_gate (rw (source, h) at e)))

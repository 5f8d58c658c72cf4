-- Laws of a gate in the binary form: what is written is read back, and what is read was so written. Assumes nothing.
use mathlib.Core.Path.{◌≡◌, refl, sym, ◌∙◌, ap₂}
use mathlib.Core.List.{List, [], ◌∷◌, ◌++◌, append_assoc}
use Prim.Native.Nat.{ℕ, ◌-◌, ◌≤◌, ◌<◌, max, min}
use native.Mathlib.Omega.{arith}
use borrow.Author.Tests.{ltb-true, leb-true, lt-ltb, le-leb}
use lib.ListN.{length, length-append}
use Rattle.circuit.specs.RulesInCode.{Passed}
use Rattle.text.specs.Part.{got, ill}
use Rattle.text.proofs.Parts.{by_part}
use Rattle.binary.specs.Difference.{groups, read_difference}
use Rattle.binary.specs.Gate.{Differences, differences, gate_bytes, read_gate, gate_tests, operands}
use Rattle.binary.proofs.Differences.{length_groups, groups_read, Bytes, read_groups}

pub ill_got : {A : Type 0} {a : A} {r : List ℕ} → ill ≡ got a r → ⊥
ill_got e = let z : ◌≡◌ {A = ℕ} 0 1 = cc in omega arith

-- ---- both differences

module _ (t : List ℕ) where
  pub first_ill : read_difference t ≡ ill → read_gate t ≡ ill
  unfolding read_gate
  first_ill e = rw (read_gate, e)

  module _ {n : ℕ} {r : List ℕ} (e : read_difference t ≡ got n r) where
    pub second_ill : read_difference r ≡ ill → read_gate t ≡ ill
    unfolding read_gate
    second_ill f = rw (read_gate, e, f)

    pub both_read : {m : ℕ} {rest : List ℕ} → read_difference r ≡ got m rest → read_gate t ≡ got (record { first = n; second = m }) rest
    unfolding read_gate
    both_read f = rw (read_gate, e, f)

-- differences of two groups at the most
pub record Small (d : Differences) : Type 0 where
  pub first : d.first < 16384
  pub second : d.second < 16384

pub gate_read : (d : Differences) (t : List ℕ) → Small d → read_gate (gate_bytes d ++ t) ≡ got d t
unfolding gate_bytes
gate_read d t s = rw append_assoc (both_read _ (groups_read d.first (groups d.second ++ t) s.first) (groups_read d.second t s.second))

pub length_gate : (d : Differences) → Small d → length (gate_bytes d) ≤ 4
unfolding gate_bytes
length_gate d s = simp length-append (omega (arith, length_groups d.first s.first, length_groups d.second s.second))

-- t opens with the gate's bytes, and goes on with r
pub record GateOpens (t : List ℕ) (d : Differences) (r : List ℕ) : Type 0 where
  pub text : t ≡ gate_bytes d ++ r
  pub small : Small d
  pub rest : Bytes r

pub read_gate_lem : (t : List ℕ) {d : Differences} {r : List ℕ} → Bytes t → read_gate t ≡ got d r → GateOpens t d r
unfolding gate_bytes
read_gate_lem t {d} {r} s a = by_part (read_difference t)
    (λ n u e. let g = read_groups s e in by_part (read_difference u)
    (λ m v f. let h = read_groups g.rest f in
    let w : got (record { first = n; second = m }) v ≡ got d r = sym (both_read t e f) ∙ a in
    let p : record { first = n; second = m } ≡ d = cc in
    let q : v ≡ r = cc in
    rw (← p, ← q) (record { text = g.text ∙ rw (h.text, append_assoc); small = record { first = g.small; second = h.small }; rest = h.rest }))
    (λ f. absurd (ill_got (sym (second_ill t e f) ∙ a))))
    (λ e. absurd (ill_got (sym (first_ill t e) ∙ a)))

-- ---- the operands

-- operands below the own literal give differences that pass, and come back with the larger first
pub operands_differences : (own left right : ℕ) → left < own → right < own → operands own (differences own left right) ≡ max left right ∷ min left right ∷ []
unfolding operands differences
operands_differences own left right p q =
    let e : own - (own - max left right) ≡ max left right = omega arith in
    let f : max left right - (max left right - min left right) ≡ min left right = omega arith in
    rw (e, f)

pub differences_pass : (own left right : ℕ) → left < own → right < own → Passed (gate_tests own (differences own left right))
unfolding gate_tests differences
differences_pass own left right p q =
    let m : ℕ = max left right in
    (lt-ltb 0 (own - m) (omega arith), (le-leb (own - m) own (omega arith), (le-leb (m - min left right) (own - (own - m)) (omega arith), tt)))

pub differences_small : (own left right : ℕ) → own < 16384 → left < own → right < own → Small (differences own left right)
unfolding differences
differences_small own left right h p q = omega arith

-- what passes gives operands below the own literal, larger first, and is their differences
pub record Operands (own : ℕ) (d : Differences) : Type 0 where
  pub left : ℕ
  pub right : ℕ
  pub below : left < own
  pub larger : right ≤ left
  pub gives : operands own d ≡ left ∷ right ∷ []
  pub same : differences own left right ≡ d

pub passed_operands : (own : ℕ) (d : Differences) → Passed (gate_tests own d) → Operands own d
unfolding gate_tests operands differences
passed_operands own d p =
    let a = ltb-true 0 d.first p.0 in
    let b = leb-true d.first own p.1.0 in
    let e = leb-true d.second (own - d.first) p.1.1.0 in
    record {
      left = own - d.first;
      right = own - d.first - d.second;
      below = omega arith;
      larger = omega arith;
      gives = refl;
      same = ap₂ (λ (x y : ℕ). record { first = x; second = y }) (omega arith) (omega arith);
    }

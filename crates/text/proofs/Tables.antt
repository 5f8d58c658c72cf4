-- Laws of a circuit's lines and words: how many there are, their bounds, and what 3, 10 and 11 say of them. Assumes nothing.
use mathlib.Core.Path.{◌≡◌, refl}
use mathlib.Core.List.{List, [], ◌∷◌}
use Prim.Native.Nat.{ℕ, zero, suc, ◌+◌, ◌*◌, ◌-◌, ◌≤◌, ◌<◌}
use native.Mathlib.Nat.{add-zero, sub-zero, zero-mul, suc-mul}
use native.Mathlib.Omega.{arith}
use lib.ListN.{length}
use Rattle.circuit.specs.declared.Counts.{Counts}
use Rattle.circuit.specs.Refusal.{refusal}
use Rattle.circuit.specs.RulesInCode.{Passed, Bounded}
use Rattle.circuit.specs.Table.{top, ceiling_tests, table_length, Kind, input, latch, literal, gate, several, kinds, width, table_tests, circuit_tests, literals}
use Rattle.circuit.proofs.Refusals.{append_past}
use Rattle.circuit.proofs.Legality.{bounded_passed, circuit_blocks, words_kept, words_pass}
use Rattle.text.proofs.Outcomes.{hold_passed, passed_hold}

-- ---- how many words

-- so many words of the table belong to these lines
unfoldable pub size : List Kind → ℕ
size [] = 0
size (k ∷ ks) = width k + size ks

size_several : (kind : ℕ → Kind) (w : ℕ) → ((own : ℕ) → width (kind own) ≡ w) → (own n : ℕ) (ks : List Kind) → size (several kind own n ks) ≡ n * w + size ks
unfolding several size
size_several kind w wide own zero ks = rw zero-mul (omega arith)
size_several kind w wide own (suc n) ks = omega (arith, wide own, size_several kind w wide (own + 2) n ks, suc-mul n w)

pub size_kinds : (c : Counts) → size (kinds c) ≡ table_length c
unfolding kinds width size
size_kinds c =
    let wide = size_several in
    simp (wide input 0 (λ own. refl), wide latch 2 (λ own. refl), wide (λ own. literal) 1 (λ own. refl), wide gate 2 (λ own. refl)) (omega arith)

-- ---- lines of one kind from number i on, as a loop goes through them

module _ (kind : ℕ → Kind) (own n : ℕ) (ks : List Kind) where
  abbrev pub lines_from : ℕ → List Kind
  lines_from i = several kind (own + 2 * i) (n - i) ks

  pub lines_first : several kind own n ks ≡ lines_from 0
  lines_first = rw (sub-zero, add-zero)

  pub lines_next : (i : ℕ) → i < n → lines_from i ≡ kind (own + 2 * i) ∷ lines_from (i + 1)
  unfolding several
  lines_next i h =
      let p : n - i ≡ suc (n - (i + 1)) = omega arith in
      let q : own + 2 * i + 2 ≡ own + 2 * (i + 1) = omega arith in
      rw (p, q)

  pub lines_last : (i : ℕ) → n ≤ i → lines_from i ≡ ks
  unfolding several
  lines_last i h = let p : n - i ≡ 0 = omega arith in rw p

-- ---- own literals

-- an own literal is neither constant, so no reset of 0 or 1 is one, and at most the largest literal; a lamp has none
abbrev pub Due : ℕ → Kind → Type 0
Due most (input own) = (2 ≤ own) × (own ≤ most)
Due most (latch own) = (2 ≤ own) × (own ≤ most)
Due most literal = Unit {0}
Due most (gate own) = (2 ≤ own) × (own ≤ most)

abbrev pub Owned : ℕ → List Kind → Type 0
Owned most [] = Unit {0}
Owned most (k ∷ ks) = Due most k × Owned most ks

owned_several : (most : ℕ) (kind : ℕ → Kind) → ((own : ℕ) → 2 ≤ own → own ≤ most → Due most (kind own))
    → (own n : ℕ) (ks : List Kind) → 2 ≤ own → own + 2 * n ≤ most + 2 → Owned most ks → Owned most (several kind own n ks)
unfolding several
owned_several most kind d own zero ks l h o = o
owned_several most kind d own (suc n) ks l h o = (d own l (omega arith), owned_several most kind d (own + 2) n ks (omega arith) (omega arith) o)

owned_literals : (most own n : ℕ) (ks : List Kind) → Owned most ks → Owned most (several (λ own. literal) own n ks)
unfolding several
owned_literals most own zero ks o = o
owned_literals most own (suc n) ks o = (tt, owned_literals most (own + 2) n ks o)

pub owned_kinds : (c : Counts) → Owned (top c) (kinds c)
unfolding kinds
owned_kinds c =
    owned_several (top c) input (λ own l h. (l, h)) _ c.inputs _ (omega arith) (omega arith)
    (owned_several (top c) latch (λ own l h. (l, h)) _ c.latches _ (omega arith) (omega arith)
    (owned_literals (top c) _ (literals c) _
    (owned_several (top c) gate (λ own l h. (l, h)) _ c.gates _ (omega arith) (omega arith) tt)))

-- ---- what 3, 10 and 11 refuse

-- A circuit that they do not refuse
pub record Taken (c : Counts) (table : List ℕ) : Type 0 where
  pub bounded : Bounded c
  pub long : table_length c ≤ length table
  pub rules : Passed (table_tests (top c) (kinds c) table)

pub taken : (c : Counts) (table : List ℕ) → 0 ≡ refusal (circuit_tests c table) → Taken c table
taken c table e =
    let p = circuit_blocks c table e in
    let kept = words_kept c table p.1 in
    record { bounded = p.0; long = kept.0; rules = hold_passed (table_tests (top c) (kinds c) table) kept.1 }

pub taken_refusal : {c : Counts} {table : List ℕ} → Taken c table → 0 ≡ refusal (circuit_tests c table)
unfolding circuit_tests
taken_refusal {c} {table} t =
    append_past (ceiling_tests c) _ (bounded_passed c t.bounded) (words_pass c table t.long (passed_hold (table_tests (top c) (kinds c) table) t.rules))

-- Ordering keeps a circuit's behaviour: the gate rule does not ask which operand comes first, in either logic. Assumes nothing.
use mathlib.Core.Path.{◌≡◌, refl, ◌∙◌, ap}
use mathlib.Core.Bool.{Bool, true, false, ◌&&◌}
use mathlib.Core.List.{List, [], ◌∷◌, ◌++◌, map}
use Prim.Native.Nat.{ℕ, zero, suc, ◌+◌, ◌*◌, ◌≤◌, ◌<◌, max, min, suc-le-suc}
use native.Mathlib.Omega.{arith}
use borrow.Author.Tests.{leb-true, leb-false}
use lib.Dec.{leb}
use lib.ListN.{length}
use Rattle.three.specs.Lists.{tabulate}
use Rattle.three.specs.Value.{Three, code, Logic, both, boolean, ternary}
use Rattle.three.specs.Cube.{alike}
use Rattle.three.proofs.Lists.{by_test, tabulate_ext}
use Rattle.three.proofs.Fields.{of_two, alike_same}
use Rattle.circuit.specs.declared.Counts.{Counts}
use Rattle.circuit.specs.Circuit.{Circuit, Latch, Gate, value, pass, settle, readings, next, lamps, bads, constraints}
use Rattle.circuit.specs.Table.{table_length, literals_at, bads_at, constraints_at, circuit_of}
use Rattle.binary.specs.Ordered.{ordered}
use Rattle.binary.proofs.Ordering.{ordered_before, ordered_larger, ordered_smaller}

-- ---- the gate rule does not ask for the order

pub and_commutes : (a b : Bool) → (a && b) ≡ (b && a)
and_commutes true true = refl
and_commutes true false = refl
and_commutes false true = refl
and_commutes false false = refl

pub both_commutes : (a b : Three) → both a b ≡ both b a
unfolding alike both code
both_commutes a b = alike_same _ _ (of_two (λ a b. alike (both a b) (both b a)) refl a b)

-- ---- latches, with their resets, lamps, bad states and constraints are the same

module _ (c : Counts) (table : List ℕ) (h : table_length c ≤ length table) where
  pub latches_kept : (circuit_of c (ordered c table)).latches ≡ (circuit_of c table).latches
  unfolding circuit_of
  latches_kept = tabulate_ext c.latches _ _ (λ i k. rw (ordered_before c table h (2 * i) (omega arith), ordered_before c table h (2 * i + 1) (omega arith)))

  lamps_alike : (circuit_of c (ordered c table)).lamps ≡ (circuit_of c table).lamps
  unfolding circuit_of
  lamps_alike = tabulate_ext c.lamps _ _ (λ i k. ordered_before c table h (literals_at c + i) (omega arith))

  bads_alike : (circuit_of c (ordered c table)).bads ≡ (circuit_of c table).bads
  unfolding circuit_of
  bads_alike = tabulate_ext c.bads _ _ (λ i k. ordered_before c table h (bads_at c + i) (omega arith))

  constraints_alike : (circuit_of c (ordered c table)).constraints ≡ (circuit_of c table).constraints
  unfolding circuit_of
  constraints_alike = tabulate_ext c.constraints _ _ (λ i k. ordered_before c table h (constraints_at c + i) (omega arith))

-- ---- so are the values of all variables, in a logic whose gate rule commutes

-- What two circuits do alike in a logic: next states, lamps, bad states and constraints
pub record AlikeIn {A : Type 0} (logic : Logic A) (a b : Circuit) : Type 0 where
  pub nexts : (switches state : List A) → next logic a switches state ≡ next logic b switches state
  pub lit : (switches state : List A) → lamps logic a switches state ≡ lamps logic b switches state
  pub bad : (switches state : List A) → bads logic a switches state ≡ bads logic b switches state
  pub constrained : (switches state : List A) → constraints logic a switches state ≡ constraints logic b switches state

module _ {A : Type 0} (logic : Logic A) where
  -- a gate's value
  abbrev gate_value : List A → Gate → A
  gate_value values g = logic.and (value logic values g.left) (value logic values g.right)

  -- gates that are alike one by one are passed alike
  pass_alike : (n : ℕ) (f g : ℕ → Gate) → ((i : ℕ) → i < n → (values : List A) → gate_value values (f i) ≡ gate_value values (g i))
      → (values : List A) → pass logic values (tabulate n f) ≡ pass logic values (tabulate n g)
  unfolding tabulate pass
  pass_alike zero f g h values = refl
  pass_alike (suc n) f g h values =
      ap (λ (v : A). pass logic (values ++ (v ∷ [])) (tabulate n (λ i. f (suc i)))) (h 0 (omega arith) values)
      ∙ pass_alike n (λ i. f (suc i)) (λ i. g (suc i)) (λ i k. h (suc i) (suc-le-suc k)) _

  module _ (commutes : (a b : A) → logic.and a b ≡ logic.and b a) where
    larger_first : (values : List A) (a b : ℕ)
        → logic.and (value logic values (max a b)) (value logic values (min a b)) ≡ logic.and (value logic values a) (value logic values b)
    larger_first values a b = by_test (leb b a)
        (λ e. let h = leb-true b a e in let p : max a b ≡ a = omega arith in let q : min a b ≡ b = omega arith in rw (p, q))
        (λ e. let h = leb-false b a e in let p : max a b ≡ b = omega arith in let q : min a b ≡ a = omega arith in rw (p, q) (commutes (value logic values b) (value logic values a)))

    module _ (c : Counts) (table : List ℕ) (h : table_length c ≤ length table) where
      settle_ordered : (switches state : List A) → settle logic (circuit_of c (ordered c table)) switches state ≡ settle logic (circuit_of c table) switches state
      unfolding settle circuit_of
      settle_ordered switches state = pass_alike c.gates _ _
          (λ i k values. rw (ordered_larger c table h i k, ordered_smaller c table h i k) (larger_first values _ _)) _

      readings_kept : {literals literals' : List ℕ} → literals ≡ literals' → (switches state : List A)
          → readings logic (circuit_of c (ordered c table)) literals switches state ≡ readings logic (circuit_of c table) literals' switches state
      unfolding readings
      readings_kept same switches state = rw (settle_ordered switches state, same)

      pub kept : AlikeIn logic (circuit_of c (ordered c table)) (circuit_of c table)
      kept = record {
        nexts = λ switches state. readings_kept (ap (λ (ls : List Latch). map (λ l. l.next) ls) (latches_kept c table h)) switches state;
        lit = readings_kept (lamps_alike c table h);
        bad = readings_kept (bads_alike c table h);
        constrained = readings_kept (constraints_alike c table h);
      }

-- ---- in both logics

-- Two circuits do the same, in Boolean values and in cubes, and start alike
pub record Alike (a b : Circuit) : Type 0 where
  pub in_boolean : AlikeIn boolean a b
  pub in_ternary : AlikeIn ternary a b
  pub latches : a.latches ≡ b.latches

pub behaviour_kept : (c : Counts) (table : List ℕ) → table_length c ≤ length table → Alike (circuit_of c (ordered c table)) (circuit_of c table)
unfolding boolean ternary
behaviour_kept c table h = record {
  in_boolean = kept boolean and_commutes c table h;
  in_ternary = kept ternary both_commutes c table h;
  latches = latches_kept c table h;
}

-- The pass over the gates, turn by turn: i gates are done, and what is left of them gives the same values. Assumes nothing.
use mathlib.Core.Path.{◌≡◌, refl, sym, ap, ap₂, ◌∙◌}
use mathlib.Core.List.{List, [], ◌∷◌, ◌++◌}
use Prim.Native.Nat.{ℕ, suc, ◌+◌, ◌*◌, ◌<◌, ◌≤◌}
use native.Mathlib.Nat.{add-zero}
use native.Mathlib.Numerals.{add-one}
use native.Mathlib.Omega.{arith}
use lib.ListN.{length, get_or, set, take, drop, length-set, take-append-drop, drop_of_length-le}
use lib.Seq.{take-suc-set, drop-set-lt, drop-cons, drop-drop, drop-append-add, take_at, length-take-le}
use Rattle.three.specs.Lists.{tabulate}
use Rattle.three.specs.Value.{Three, Logic, both, ternary}
use Rattle.three.proofs.Lists.{length_tabulate, get_or_tabulate, tabulate_append, tabulate_ext}
use Rattle.circuit.specs.Circuit.{Gate, value, pass}
use Rattle.circuit.specs.RulesInCode.{gates_from}
use Rattle.pass.specs.ValuesInCode.{values_of, Working, Holding, Gateable, passed}
use Rattle.circuit.proofs.Pass.{value_take, length_pass}
use Rattle.pass.proofs.WorkingTable.{length_values}

module _ (words : List ℕ) (at first count : ℕ) where
  -- a working table has room for the gates
  pub room : (table : List ℕ) → Gateable words at first count → Working table → first + count ≤ length (values_of table)
  room table g w = omega (arith, g.room, length_values table, w.long)

  -- the operands of gate number i
  abbrev pub left : ℕ → ℕ
  left i = get_or words (at + 2 * i) 0

  abbrev pub right : ℕ → ℕ
  right i = get_or words (at + 2 * i + 1) 0

  -- gate number i and those after it
  gates_cons : (i : ℕ) → i < count → drop i (gates_from words at count) ≡ record { left = left i; right = right i } ∷ drop (suc i) (gates_from words at count)
  gates_cons i h =
      drop-cons (gates_from words at count) i (record { left = 0; right = 0 }) (rw length_tabulate h)
      ∙ ap (λ (g : Gate). g ∷ drop (suc i) (gates_from words at count)) (get_or_tabulate count _ i _ h)

  gates_end : (i : ℕ) → count ≤ i → drop i (gates_from words at count) ≡ []
  gates_end i h = drop_of_length-le (gates_from words at count) {i = i} (rw length_tabulate h)

  module _ (vs₀ : List Three) where
    pub record Turn (vs : List Three) (i : ℕ) : Type 0 where
      pub within : i ≤ count
      pub long : length vs ≡ length vs₀
      pub rest : drop (first + count) vs ≡ drop (first + count) vs₀
      pub same : pass ternary (take (first + i) vs) (drop i (gates_from words at count)) ≡ pass ternary (take first vs₀) (gates_from words at count)

    pub turn_first : Turn vs₀ 0
    turn_first = record { within = omega arith; long = refl; rest = refl; same = rw add-zero }

    module _ (g : Gateable words at first count) (room : first + count ≤ length vs₀) where
      pub turn_next : (vs : List Three) (i : ℕ) (v : Three) → Turn vs i → i < count → v ≡ both (value ternary vs (left i)) (value ternary vs (right i)) → Turn (set vs (first + i) v) (i + 1)
      unfolding pass ternary
      turn_next vs i v t h e = record {
        within = omega arith;
        long = length-set vs (first + i) v ∙ t.long;
        rest = drop-set-lt (first + count) vs (first + i) v (omega arith) ∙ t.rest;
        same =
            let n : first + (i + 1) ≡ suc (first + i) = omega arith in
            let seen : v ≡ both (value ternary (take (first + i) vs) (left i)) (value ternary (take (first + i) vs) (right i)) =
            e ∙ ap₂ both (sym (value_take ternary vs (left i) (first + i) (g.left i h))) (sym (value_take ternary vs (right i) (first + i) (g.right i h))) in
            let s = t.same in
            rw (n, add-one, take-suc-set vs (first + i) v (omega (arith, t.long)), seen) (rw (gates_cons i h) at s);
      }

      pub turn_last : (vs : List Three) (i : ℕ) → Turn vs i → count ≤ i → vs ≡ passed words at first count vs₀
      unfolding passed pass
      turn_last vs i t h =
          let i= : i ≡ count = omega (arith, t.within) in
          let s = rw (gates_end i h, i=) at t.same in
          sym (take-append-drop (first + count) vs) ∙ ap₂ (λ (a b : List Three). a ++ b) s t.rest

-- ---- gates in parts: k of them, and then n more from word `from` on, the first of these variable `own`

pass_append : {A : Type 0} (logic : Logic A) (vs : List A) (gs hs : List Gate) → pass logic vs (gs ++ hs) ≡ pass logic (pass logic vs gs) hs
unfolding pass
pass_append logic vs [] hs = refl
pass_append logic vs (g ∷ gs) hs = pass_append logic (vs ++ logic.and (value logic vs g.left) (value logic vs g.right) ∷ []) gs hs

module _ (words : List ℕ) (at first : ℕ) where
  pub passed_none : (vs : List Three) → vs ≡ passed words at first 0 vs
  unfolding passed pass tabulate
  passed_none vs = rw add-zero (sym (take-append-drop first vs))

  module _ (k n from own : ℕ) (place : from ≡ at + 2 * k) (named : own ≡ first + k) where
    pub gateable_part : (count : ℕ) → k + n ≤ count → Gateable words at first count → Gateable words from own n
    gateable_part count h g = record {
      long = omega (arith, g.long);
      room = omega (arith, g.room);
      left = λ i l. let e : from + 2 * i ≡ at + 2 * (k + i) = omega arith in rw e (omega (arith, g.left (k + i) (omega arith)));
      right = λ i l. let e : from + 2 * i ≡ at + 2 * (k + i) = omega arith in rw e (omega (arith, g.right (k + i) (omega arith)));
    }

    gates_append : gates_from words at (k + n) ≡ gates_from words at k ++ gates_from words from n
    gates_append =
        tabulate_append k n _
        ∙ ap (λ (l : List Gate). gates_from words at k ++ l)
        (tabulate_ext n _ _ (λ i h. let e : at + 2 * (k + i) ≡ from + 2 * i = omega arith in ap (λ p. record { left = get_or words p 0; right = get_or words (p + 1) 0 }) e))

    passed_part : (vs : List Three) → first + k ≤ length vs → passed words from own n (passed words at first k vs) ≡ passed words at first (k + n) vs
    unfolding passed
    passed_part vs fits =
        let front : List Three = pass ternary (take first vs) (gates_from words at k) in
        let long : length front ≡ own = length_pass ternary _ _ ∙ rw (length_tabulate, length-take-le first vs (omega arith)) (omega arith) in
        let e : first + k + n ≡ first + (k + n) = omega arith in
        ap₂ (λ (a b : List Three). a ++ b)
        (ap (λ (l : List Three). pass ternary l (gates_from words from n)) (take_at front _ own long) ∙ sym (pass_append ternary _ (gates_from words at k) _) ∙ ap (pass ternary (take first vs)) (sym gates_append))
        (ap (λ m. drop (m + n) (front ++ drop (first + k) vs)) (sym long) ∙ drop-append-add front _ n ∙ drop-drop n (first + k) vs ∙ ap (λ m. drop m vs) e)

    pub holding_part : (t t' : List ℕ) (vs : List Three) (count : ℕ) → first + k ≤ length vs → count ≡ k + n
        → Holding t (passed words at first k vs) → Holding t' (passed words from own n (values_of t)) → Holding t' (passed words at first count vs)
    holding_part t t' vs count fits e h h' = record { working = h'.working; same = rw e (h'.same ∙ ap (passed words from own n) h.same ∙ passed_part vs fits) }

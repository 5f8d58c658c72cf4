-- Laws of the beginners' rules: what a board inside them is, and that only the table's own words are looked at. Assumes nothing.
use mathlib.Core.Path.{◌≡◌, ap, ap₂, ◌∙◌}
use mathlib.Core.Bool.{Bool, true, false, not}
use mathlib.Core.List.{List, [], ◌∷◌}
use Prim.Native.Nat.{ℕ, ◌+◌, ◌*◌, ◌/◌, ◌<◌, ◌≤◌}
use native.Mathlib.Omega.{arith}
use borrow.Author.Tests.{leb-true, le-leb, lt-leb, eqb-true, eq-eqb}
use lib.Dec.{eqb}
use lib.ListN.{length, get_or, drop, get_or-append}
use Rattle.three.specs.Lists.{every, over}
use Rattle.three.proofs.Lists.{every_ext}
use Rattle.circuit.specs.declared.Counts.{Counts}
use Rattle.circuit.specs.Refusal.{◌or◌, refusal}
use Rattle.circuit.specs.RulesInCode.{Passed}
use Rattle.circuit.specs.Table.{table_length, literals, literals_at, gates_at}
use Rattle.circuit.proofs.Refusals.{Numbered, Alike, stops, past, none, passes, fails, passed_refusal, refuses_whole, none_past, none_append}
use Rattle.circuit.proofs.Rules.{and_fails, and_holds}
use Rattle.beginners.specs.Rules.{small_tests, varies, well_fed, feed_tests, beginners_tests}
use Rattle.beginners.specs.RulesInCode.{Small}

-- ---- the counts

module _ (c : Counts) where
  pub small_numbered : Numbered (small_tests c)
  unfolding small_tests
  small_numbered = omega arith

  small_alike : Alike 25 (small_tests c)
  unfolding small_tests
  small_alike = omega arith

  passed_small : Passed (small_tests c) → Small c
  unfolding small_tests
  passed_small p = omega (arith, leb-true, eqb-true)

  pub is_small : 0 ≡ refusal (small_tests c) → Small c
  is_small e = passed_small (passes (small_tests c) small_numbered e)

  pub too_large : (Small c → ⊥) → 25 ≡ refusal (small_tests c)
  too_large h = fails 25 (small_tests c) small_alike (λ p. h (passed_small p))

  pub small_passes : Small c → 0 ≡ refusal (small_tests c)
  unfolding small_tests
  small_passes s = passed_refusal (small_tests c) (le-leb _ _ s.inputs, (le-leb _ _ s.latches, (le-leb _ _ s.lamps, (le-leb _ _ s.gates, (eq-eqb _ 0 s.bads, (eq-eqb _ 0 s.constraints, tt))))))

-- ---- a gate

pub constant_left : {l : ℕ} (r : ℕ) → l < 2 → false ≡ well_fed l r
unfolding well_fed varies
constant_left {l} r h = and_fails _ (lt-leb 2 l h)

module _ {l : ℕ} (a : 2 ≤ l) where
  pub constant_right : {r : ℕ} → r < 2 → false ≡ well_fed l r
  unfolding well_fed varies
  constant_right {r} h = and_fails _ (lt-leb 2 r h) ∙ and_holds _ (le-leb 2 l a)

  pub variables_apart : {r : ℕ} → 2 ≤ r → not (eqb (l / 2) (r / 2)) ≡ well_fed l r
  unfolding well_fed varies
  variables_apart {r} b = and_holds _ (le-leb 2 r b) ∙ and_holds _ (le-leb 2 l a)

-- ---- the words

module _ (c : Counts) (words : List ℕ) where
  abbrev pub Nexts : Bool
  Nexts = every c.latches (λ i. varies (get_or words (2 * i) 0))

  abbrev pub Literals : Bool
  Literals = every (literals c) (λ i. varies (get_or words (literals_at c + i) 0))

  abbrev pub Gates : Bool
  Gates = every c.gates (λ i. well_fed (get_or words (gates_at c + 2 * i) 0) (get_or words (gates_at c + 2 * i + 1) 0))

  module _ {l : Bool} (e : l ≡ Nexts) where
    pub nexts_break : l ≡ false → 25 ≡ refusal (feed_tests c words)
    unfolding feed_tests
    nexts_break f = stops _ _ (rw (← e) f)

    module _ (f : l ≡ true) {m : Bool} (g : m ≡ Literals) where
      pub literals_break : m ≡ false → 25 ≡ refusal (feed_tests c words)
      unfolding feed_tests
      literals_break h = past _ _ (rw (← e) f) (stops _ _ (rw (← g) h))

      module _ (h : m ≡ true) {a : Bool} (k : a ≡ Gates) where
        pub gates_break : a ≡ false → 25 ≡ refusal (feed_tests c words)
        unfolding feed_tests
        gates_break z = past _ _ (rw (← e) f) (past _ _ (rw (← g) h) (stops _ _ (rw (← k) z)))

        pub feed_passes : a ≡ true → 0 ≡ refusal (feed_tests c words)
        unfolding feed_tests
        feed_passes z = past _ _ (rw (← e) f) (past _ _ (rw (← g) h) (past _ _ (rw (← k) z) none))

  pub beginners_numbered : Numbered (beginners_tests c words)
  unfolding beginners_tests small_tests feed_tests
  beginners_numbered = omega arith

  pub large_refused : {k : ℕ} → k ≡ refusal (small_tests c) → (k ≡ 0 → ⊥) → k ≡ refusal (beginners_tests c words)
  unfolding beginners_tests
  large_refused {k} e h = refuses_whole (small_tests c) _ k e h

  pub feed_decides : 0 ≡ refusal (small_tests c) → {k : ℕ} → k ≡ refusal (feed_tests c words) → k ≡ refusal (beginners_tests c words)
  unfolding beginners_tests
  feed_decides z e = none_past (small_tests c) _ (small_numbered c) z e

  pub beginners_small : 0 ≡ refusal (beginners_tests c words) → Small c
  unfolding beginners_tests
  beginners_small e = is_small c (none_append (small_tests c) _ (small_numbered c) e).0

-- ---- words beyond the table's own are not looked at

feed_same : (c : Counts) (ws vs : List ℕ) → ((i : ℕ) → i < table_length c → get_or ws i 0 ≡ get_or vs i 0) → feed_tests c ws ≡ feed_tests c vs
unfolding feed_tests
feed_same c ws vs same =
    let nexts : Nexts c ws ≡ Nexts c vs = every_ext c.latches _ _ (λ i h. ap varies (same (2 * i) (omega arith))) in
    let singles : Literals c ws ≡ Literals c vs = every_ext (literals c) _ _ (λ i h. ap varies (same (literals_at c + i) (omega arith))) in
    let gates : Gates c ws ≡ Gates c vs = every_ext c.gates _ _ (λ i h. ap₂ well_fed (same (gates_at c + 2 * i) (omega arith)) (same (gates_at c + 2 * i + 1) (omega arith))) in
    λ i. nexts i or 25 ∷ singles i or 25 ∷ gates i or 25 ∷ []

pub feed_over : (c : Counts) (words table : List ℕ) → table_length c ≤ length words → feed_tests c (over words table) ≡ feed_tests c words
unfolding over
feed_over c words table long = feed_same c _ words (λ i h. get_or-append words (drop (length words) table) 0 i (omega arith))

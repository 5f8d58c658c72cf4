-- The refusals of a beginners' run, in order. Assumes nothing.
use mathlib.Core.Path.{◌≡◌, ap, ◌∙◌}
use mathlib.Core.List.{List}
use mathlib.Core.Bool.{Bool}
use Prim.Native.Nat.{ℕ, ◌+◌, ◌*◌, ◌<◌, ◌≤◌}
use native.Mathlib.Nat.{zero-add, one-mul}
use lib.ListN.{get_or}
use Rattle.three.specs.Lists.{every}
use Rattle.three.proofs.Lists.{every_ext}
use borrow.Author.Tests.{le-leb, lt-leb}
use Rattle.circuit.specs.declared.Counts.{Counts}
use Rattle.circuit.specs.Refusal.{refusal}
use Rattle.circuit.specs.Table.{board_tests}
use Rattle.circuit.proofs.Refusals.{stops, past, none, refuses_whole, none_past}
use Rattle.circuit.proofs.Legality.{board_numbered}
use Rattle.beginners.specs.Rules.{small_tests, varies, feed_tests, beginners_tests}
use Rattle.beginners.specs.Calls.{buffer_tests, chain_beginners_tests}
use Rattle.beginners.proofs.Rules.{beginners_numbered, large_refused, feed_decides}

-- ---- literals one every step

varies_at : (table : List ℕ) {p q : ℕ} → p ≡ q → varies (get_or table p 0) ≡ varies (get_or table q 0)
varies_at table e = ap (λ (n : ℕ). varies (get_or table n 0)) e

module _ (count : ℕ) (table : List ℕ) {l : Bool} where
  -- from the first word on, and one after the other
  pub from_first : (step : ℕ) → l ≡ every count (λ i. varies (get_or table (0 + step * i) 0)) → l ≡ every count (λ i. varies (get_or table (step * i) 0))
  from_first step e = e ∙ every_ext count _ _ (λ i h. varies_at table (zero-add (step * i)))

  pub in_turn : (at : ℕ) → l ≡ every count (λ i. varies (get_or table (at + 1 * i) 0)) → l ≡ every count (λ i. varies (get_or table (at + i) 0))
  in_turn at e = e ∙ every_ext count _ _ (λ i h. varies_at table (ap (λ (n : ℕ). at + n) (one-mul i)))

-- ---- in order

module _ (c : Counts) (table : List ℕ) (n : ℕ) where
  abbrev number : ℕ
  number = refusal (chain_beginners_tests c table n)

  pub board_refuses : (k : ℕ) → k ≡ refusal (board_tests c table) → (k ≡ 0 → ⊥) → k ≡ number
  unfolding chain_beginners_tests
  board_refuses = refuses_whole (board_tests c table) _

  module _ (ok : 0 ≡ refusal (board_tests c table)) where
    outside : (k : ℕ) → k ≡ refusal (beginners_tests c table) → (k ≡ 0 → ⊥) → k ≡ number
    unfolding chain_beginners_tests
    outside k e h = none_past (board_tests c table) _ (board_numbered c table) ok (refuses_whole (beginners_tests c table) _ k e h)

    pub large_refuses : (k : ℕ) → k ≡ refusal (small_tests c) → (k ≡ 0 → ⊥) → k ≡ number
    large_refuses k e h = outside k (large_refused c table e h) h

    module _ (small : 0 ≡ refusal (small_tests c)) where
      pub feed_refuses : (k : ℕ) → k ≡ refusal (feed_tests c table) → (k ≡ 0 → ⊥) → k ≡ number
      feed_refuses k e h = outside k (feed_decides c table small e) h

      module _ (fed : 0 ≡ refusal (feed_tests c table)) where
        past_rules : {k : ℕ} → k ≡ refusal (buffer_tests n) → k ≡ number
        unfolding chain_beginners_tests
        past_rules e =
            none_past (board_tests c table) _ (board_numbered c table) ok
            (none_past (beginners_tests c table) _ (beginners_numbered c table) (feed_decides c table small fed) e)

        pub cubes_short : n < 19683 → 13 ≡ number
        unfolding buffer_tests
        cubes_short h = past_rules (stops _ _ (lt-leb 19683 n h))

        pub cubes_over : 19683 ≤ n → 65536 < n → 13 ≡ number
        unfolding buffer_tests
        cubes_over l h = past_rules (past _ _ (le-leb 19683 n l) (stops _ _ (lt-leb n 65536 h)))

        pub run_passes : 19683 ≤ n → n ≤ 65536 → 0 ≡ number
        unfolding buffer_tests
        run_passes l h = past_rules (past _ _ (le-leb 19683 n l) (past _ _ (le-leb n 65536 h) none))

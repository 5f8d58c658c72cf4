-- The chain's refusals before 15, in order, and what holds where none is given. Assumes nothing.
use mathlib.Core.Path.{◌≡◌}
use mathlib.Core.List.{List, ◌++◌}
use Prim.Native.Nat.{ℕ, ◌<◌, ◌≤◌}
use native.Mathlib.Omega.{arith}
use borrow.Author.Tests.{le-leb, lt-leb, leb-true}
use Rattle.circuit.specs.declared.Counts.{Counts}
use Rattle.circuit.specs.Refusal.{Test, refusal}
use Rattle.circuit.specs.Table.{board_tests}
use Rattle.circuit.specs.RulesInCode.{Legal}
use Rattle.circuit.proofs.Refusals.{stops, past, none, passes, none_append, refuses_whole, none_past, none_behind, passed_refusal}
use Rattle.circuit.proofs.Legality.{board_numbered, board_legal}
use Rattle.cubes.specs.Buffer.{cube_bytes}
use Rattle.cubes.specs.Chain.{chain_tests}

module _ (c : Counts) (table : List ℕ) (w n : ℕ) where
  abbrev number : ℕ
  number = refusal (chain_tests c table w n)

  pub board_refuses : (k : ℕ) → k ≡ refusal (board_tests c table) → (k ≡ 0 → ⊥) → k ≡ number
  unfolding chain_tests
  board_refuses = refuses_whole (board_tests c table) _

  module _ (ok : 0 ≡ refusal (board_tests c table)) where
    past_board : (ts : List Test) {k : ℕ} → k ≡ refusal ts → k ≡ refusal (board_tests c table ++ ts)
    past_board ts = none_past (board_tests c table) ts (board_numbered c table) ok

    pub interval_over : 1000 < w → 12 ≡ number
    unfolding chain_tests
    interval_over h = past_board _ (stops _ _ (lt-leb w 1000 h))

    module _ (lw : w ≤ 1000) where
      pub cubes_short : n < cube_bytes c.latches → 13 ≡ number
      unfolding chain_tests
      cubes_short h = past_board _ (past _ _ (le-leb w 1000 lw) (stops _ _ (lt-leb (cube_bytes c.latches) n h)))

      module _ (ln : cube_bytes c.latches ≤ n) where
        pub cubes_over : 65536 < n → 13 ≡ number
        unfolding chain_tests
        cubes_over h = past_board _ (past _ _ (le-leb w 1000 lw) (past _ _ (le-leb (cube_bytes c.latches) n ln) (stops _ _ (lt-leb n 65536 h))))

        pub chain_passes : n ≤ 65536 → 0 ≡ number
        unfolding chain_tests
        chain_passes mn = past_board _ (past _ _ (le-leb w 1000 lw) (past _ _ (le-leb (cube_bytes c.latches) n ln) (past _ _ (le-leb n 65536 mn) none)))

  -- where w and the buffer are in order the board decides
  pub board_alone : w ≤ 1000 → cube_bytes c.latches ≤ n → n ≤ 65536 → refusal (board_tests c table) ≡ number
  unfolding chain_tests
  board_alone lw ln mn = none_behind (board_tests c table) _ (passed_refusal _ (le-leb w 1000 lw, (le-leb (cube_bytes c.latches) n ln, (le-leb n 65536 mn, tt))))

  -- what holds where none is given
  pub record Accepted : Type 0 where
    pub legal : Legal c table
    pub interval : w ≤ 1000
    pub one : cube_bytes c.latches ≤ n
    pub small : n ≤ 65536

  pub accepted_chain : 0 ≡ number → Accepted
  unfolding chain_tests
  accepted_chain e =
      let p = none_append (board_tests c table) _ (board_numbered c table) e in
      let q = passes _ (omega arith) p.1 in
      record { legal = board_legal c table p.0; interval = omega (arith, leb-true); one = omega (arith, leb-true); small = omega (arith, leb-true) }

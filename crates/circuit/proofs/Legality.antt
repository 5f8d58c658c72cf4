-- A circuit that is not refused is legal: what 3, 10 and 11 leave out, block by block and rule by rule; and 16, which is a run's. Assumes nothing.
use mathlib.Core.Path.{◌≡◌, sym, ◌∙◌}
use mathlib.Core.Bool.{true, false, ◌&&◌}
use mathlib.Core.List.{List}
use Prim.Native.Nat.{ℕ, ◌+◌, ◌*◌, ◌<◌, ◌≤◌}
use native.Mathlib.Omega.{arith}
use borrow.Author.Tests.{leb-true, ltb-true, le-leb, lt-leb}
use lib.Dec.{leb, ltb}
use lib.ListN.{length, get_or}
use Rattle.three.proofs.Lists.{and_parts, every_at}
use Rattle.circuit.specs.declared.Counts.{Counts}
use Rattle.circuit.specs.Refusal.{refusal, all_hold}
use Rattle.circuit.specs.RulesInCode.{Passed, latch_kept, literal_kept, gate_kept, Bounded, Legal}
use Rattle.circuit.specs.Table.{top, table_length, kinds, table_tests, ceiling_tests, word_tests, circuit_tests, lamp_tests, board_tests, gates_at, verdicts}
use Rattle.circuit.proofs.Refusals.{Numbered, Alike, stops, past, none, passes, fails, passed_refusal, refuses_whole, none_past, none_append, append_past, none_behind}
use Rattle.circuit.proofs.Rules.{Latches, Literals, Gates, table_rules}

-- ---- 3: the ceilings

module _ (c : Counts) where
  pub ceilings_alike : Alike 3 (ceiling_tests c)
  unfolding ceiling_tests
  ceilings_alike = omega arith

  pub ceilings_numbered : Numbered (ceiling_tests c)
  unfolding ceiling_tests
  ceilings_numbered = omega arith

  pub passed_bounded : Passed (ceiling_tests c) → Bounded c
  unfolding ceiling_tests
  passed_bounded p = omega (arith, leb-true)

  pub bounded_passed : Bounded c → Passed (ceiling_tests c)
  unfolding ceiling_tests
  bounded_passed b = (le-leb _ _ b.inputs, (le-leb _ _ b.latches, (le-leb _ _ b.lamps, (le-leb _ _ b.gates, (le-leb _ _ b.bads, (le-leb _ _ b.constraints, tt))))))

  pub bounded : 0 ≡ refusal (ceiling_tests c) → Bounded c
  bounded e = passed_bounded (passes (ceiling_tests c) ceilings_numbered e)

  pub over_ceiling : (Bounded c → ⊥) → 3 ≡ refusal (ceiling_tests c)
  over_ceiling h = fails 3 (ceiling_tests c) ceilings_alike (λ p. h (passed_bounded p))

  pub within_ceilings : Bounded c → 0 ≡ refusal (ceiling_tests c)
  within_ceilings b = passed_refusal (ceiling_tests c) (bounded_passed b)

  -- ---- 16

  pub lamps_numbered : Numbered (lamp_tests c)
  unfolding lamp_tests
  lamps_numbered = omega arith

  pub no_lamp : verdicts c ≡ 0 → 16 ≡ refusal (lamp_tests c)
  unfolding lamp_tests
  no_lamp z = stops _ _ (lt-leb 1 (verdicts c) (omega arith))

  pub some_lamp : 1 ≤ verdicts c → 0 ≡ refusal (lamp_tests c)
  unfolding lamp_tests
  some_lamp h = past _ _ (le-leb 1 (verdicts c) h) none

-- ---- 10 for the table, 11

module _ (c : Counts) (table : List ℕ) where
  pub table_short : length table < table_length c → 10 ≡ refusal (word_tests c table)
  unfolding word_tests
  table_short h = stops _ _ (lt-leb (table_length c) (length table) h)

  pub rules_broken : table_length c ≤ length table → all_hold (table_tests (top c) (kinds c) table) ≡ false → 11 ≡ refusal (word_tests c table)
  unfolding word_tests
  rules_broken l h = past _ _ (le-leb (table_length c) (length table) l) (stops _ _ h)

  pub words_pass : table_length c ≤ length table → all_hold (table_tests (top c) (kinds c) table) ≡ true → 0 ≡ refusal (word_tests c table)
  unfolding word_tests
  words_pass l h = past _ _ (le-leb (table_length c) (length table) l) (past _ _ h none)

  pub words_numbered : Numbered (word_tests c table)
  unfolding word_tests
  words_numbered = omega arith

  pub words_kept : 0 ≡ refusal (word_tests c table) → (table_length c ≤ length table) × (all_hold (table_tests (top c) (kinds c) table) ≡ true)
  unfolding word_tests
  words_kept e = let p = passes (word_tests c table) words_numbered e in (leb-true (table_length c) (length table) p.0, p.1.0)

  pub legal_words : Bounded c → 0 ≡ refusal (word_tests c table) → Legal c table
  unfolding latch_kept literal_kept gate_kept
  legal_words b e =
      let kept = words_kept e in
      let rules = and_parts (Latches c table) (Literals c table && Gates c table) (sym (table_rules c table) ∙ kept.1) in
      let others = and_parts (Literals c table) (Gates c table) rules.1 in
      let latch = every_at _ _ rules.0 in
      let literal = every_at _ _ others.0 in
      let gate = every_at _ _ others.1 in
      record {
        bounded = b;
        long = kept.0;
        next = λ k h. leb-true _ _ (and_parts (leb (get_or table (2 * k) 0) (top c)) _ (latch k h)).0;
        reset = λ k h. leb-true _ _ (and_parts (leb (get_or table (2 * k) 0) (top c)) _ (latch k h)).1;
        literal = λ k h. leb-true _ _ (literal k h);
        left = λ k h.
            let own : ℕ = 2 * (1 + c.inputs + c.latches) + 2 * k in
            let below : get_or table (gates_at c + 2 * k) 0 < own = ltb-true _ _ (and_parts (ltb (get_or table (gates_at c + 2 * k) 0) own) _ (gate k h)).0 in omega arith;
        right = λ k h.
            let own : ℕ = 2 * (1 + c.inputs + c.latches) + 2 * k in
            let below : get_or table (gates_at c + 2 * k + 1) 0 < own = ltb-true _ _ (and_parts (ltb (get_or table (gates_at c + 2 * k) 0) own) _ (gate k h)).1 in omega arith;
      }

  -- ---- both, as a call is given a circuit

  pub circuit_numbered : Numbered (circuit_tests c table)
  unfolding circuit_tests ceiling_tests word_tests
  circuit_numbered = omega arith

  pub circuit_blocks : 0 ≡ refusal (circuit_tests c table) → Bounded c × (0 ≡ refusal (word_tests c table))
  unfolding circuit_tests
  circuit_blocks e = let p = none_append (ceiling_tests c) (word_tests c table) (ceilings_numbered c) e in (bounded c p.0, p.1)

  pub legal : 0 ≡ refusal (circuit_tests c table) → Legal c table
  legal e = let p = circuit_blocks e in legal_words p.0 p.1

  pub board_numbered : Numbered (board_tests c table)
  unfolding board_tests ceiling_tests lamp_tests word_tests
  board_numbered = omega arith

  pub board_legal : 0 ≡ refusal (board_tests c table) → Legal c table
  unfolding board_tests
  board_legal e =
      let p = none_append (ceiling_tests c) _ (ceilings_numbered c) e in
      legal_words (bounded c p.0) (none_append (lamp_tests c) (word_tests c table) (lamps_numbered c) p.1).1

  -- without a lamp or a bad state it is 16, whatever the table
  pub board_lampless : Bounded c → verdicts c ≡ 0 → 16 ≡ refusal (board_tests c table)
  unfolding board_tests
  board_lampless b z = append_past (ceiling_tests c) _ (bounded_passed c b) (refuses_whole (lamp_tests c) _ _ (no_lamp c z) (λ e. omega arith))

  -- with one the words decide
  pub board_lit : Bounded c → 1 ≤ verdicts c → {k : ℕ} → k ≡ refusal (word_tests c table) → k ≡ refusal (board_tests c table)
  unfolding board_tests
  board_lit b h e = append_past (ceiling_tests c) _ (bounded_passed c b) (none_past (lamp_tests c) _ (lamps_numbered c) (some_lamp c h) e)

  -- a circuit that may be written is refused as a board for want of a lamp, or not at all
  pub board_decides : 0 ≡ refusal (circuit_tests c table) → refusal (lamp_tests c) ≡ refusal (board_tests c table)
  unfolding board_tests
  board_decides e = let p = circuit_blocks e in append_past (ceiling_tests c) _ (bounded_passed c p.0) (none_behind (lamp_tests c) (word_tests c table) p.1)

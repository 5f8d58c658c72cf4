-- When a circuit, a tick, a chain and a writing are accepted, in plain comparisons and both ways: what keeps to every bound is taken, also where it meets
-- one exactly, and nothing else is. Assumes nothing.
use mathlib.Core.Path.{◌≡◌, refl, sym, ◌∙◌}
use mathlib.Core.Bool.{Bool, true, ◌&&◌}
use mathlib.Core.List.{List}
use mathlib.Core.Logic.{◌↔◌}
use Prim.Native.Nat.{ℕ, zero, suc, ◌+◌, ◌*◌, ◌≤◌, ◌<◌}
use native.Mathlib.Omega.{arith}
use borrow.Author.Tests.{leb-true, le-leb, lt-ltb}
use lib.ListN.{length, get_or}
use Rattle.three.proofs.Lists.{by_test, every_all}
use Rattle.circuit.specs.declared.Counts.{Counts}
use Rattle.circuit.specs.Refusal.{refusal, all_hold}
use Rattle.circuit.specs.Table.{top, table_length, kinds, table_tests, verdicts, literals, literals_at, gates_at, ceiling_tests, circuit_tests, board_tests}
use Rattle.circuit.specs.RulesInCode.{Bounded, Legal, latch_kept, literal_kept, gate_kept}
use Rattle.circuit.proofs.Refusals.{past, none, passes, append_past, refuses_whole, none_past, none_append}
use Rattle.circuit.proofs.Rules.{and_holds, Latches, Literals, Gates, table_rules}
use Rattle.circuit.proofs.Legality.{bounded_passed, over_ceiling, some_lamp, table_short, rules_broken, words_pass, legal_words, circuit_numbered, legal, board_numbered, board_legal, board_lampless, board_decides}
use Rattle.tick.specs.Tick.{TickGiven, Ticked}
use Rattle.tick.proofs.Ticking.{Accepted, accepted_tick, records_pass, tick_passes}
use Rattle.text.specs.Calls.{putting_tests, WrittenBy}
use Rattle.text.proofs.Answers.{write_fits}
use Rattle.cubes.specs.Buffer.{cube_bytes}
use Rattle.cubes.specs.Chain.{chain_tests, ChainGiven, refused_by}

-- ---- a circuit

both_hold : {a b : Bool} → a ≡ true → b ≡ true → (a && b) ≡ true
both_hold {a} {b} p q = sym (and_holds b p) ∙ q

module _ (c : Counts) (table : List ℕ) where
  module _ (l : Legal c table) where
    latches_kept : Latches c table ≡ true
    unfolding latch_kept
    latches_kept = every_all c.latches _ (λ i h. both_hold (le-leb (get_or table (2 * i) 0) (top c) (l.next i h)) (le-leb (get_or table (2 * i + 1) 0) 2 (l.reset i h)))

    literals_kept : Literals c table ≡ true
    unfolding literal_kept
    literals_kept = every_all (literals c) _ (λ i h. le-leb (get_or table (literals_at c + i) 0) (top c) (l.literal i h))

    gates_kept : Gates c table ≡ true
    unfolding gate_kept
    gates_kept = every_all c.gates _
        (λ i h.
        let own : ℕ = 2 * (1 + c.inputs + c.latches) + 2 * i in
        let left : get_or table (gates_at c + 2 * i) 0 < own = omega (arith, l.left i h) in
        let right : get_or table (gates_at c + 2 * i + 1) 0 < own = omega (arith, l.right i h) in
        both_hold (lt-ltb (get_or table (gates_at c + 2 * i) 0) own left) (lt-ltb (get_or table (gates_at c + 2 * i + 1) 0) own right))

    legal_accepted : 0 ≡ refusal (circuit_tests c table)
    unfolding circuit_tests
    legal_accepted =
        append_past (ceiling_tests c) _ (bounded_passed c l.bounded)
        (words_pass c table l.long (table_rules c table ∙ both_hold latches_kept (both_hold literals_kept gates_kept)))

  -- 0 for a table of exactly its words, counts at their ceilings, the largest literal, a reset of 2, operands just below their gate; for no circuit beyond these
  pub circuit_accepted : (0 ≡ refusal (circuit_tests c table)) ↔ Legal c table
  circuit_accepted = (legal c table, legal_accepted)

  -- 3 over a ceiling, 10 for a short table, 11 for a broken rule
  pub over_is_3 : (Bounded c → ⊥) → 3 ≡ refusal (circuit_tests c table)
  unfolding circuit_tests
  over_is_3 h = refuses_whole (ceiling_tests c) _ _ (over_ceiling c h) (λ e. omega arith)

  pub short_is_10 : Bounded c → length table < table_length c → 10 ≡ refusal (circuit_tests c table)
  unfolding circuit_tests
  short_is_10 b h = append_past (ceiling_tests c) _ (bounded_passed c b) (table_short c table h)

  pub broken_is_11 : Bounded c → table_length c ≤ length table → (Legal c table → ⊥) → 11 ≡ refusal (circuit_tests c table)
  unfolding circuit_tests
  broken_is_11 b h broken =
      append_past (ceiling_tests c) _ (bounded_passed c b)
      (by_test (all_hold (table_tests (top c) (kinds c) table)) (λ e. absurd (broken (legal_words c table b (words_pass c table h e)))) (λ e. rules_broken c table h e))

  -- a board has one lamp or one bad state at least
  some_watched : 0 ≡ refusal (board_tests c table) → 1 ≤ verdicts c
  some_watched e = go (verdicts c) refl
    where
      go : (n : ℕ) → verdicts c ≡ n → 1 ≤ verdicts c
      go zero z = absurd (let dark : 16 ≡ 0 = board_lampless c table (board_legal c table e).bounded z ∙ sym e in omega arith)
      go (suc n) z = omega (arith, z)

  pub board_accepted : (0 ≡ refusal (board_tests c table)) ↔ (Legal c table × (1 ≤ verdicts c))
  board_accepted = (λ e. (board_legal c table e, some_watched e), λ f. some_lamp c f.1 ∙ board_decides c table (legal_accepted f.0))

-- ---- the tick

pub tick_accepted : (g : TickGiven) {number : ℕ} {next lamps : List ℕ} → Ticked g number next lamps
    → (number ≡ 0) ↔ Accepted g.counts g.table g.state g.switches (length g.next) (length g.lamps)
tick_accepted g ticked = (
  λ z. accepted_tick g.counts g.table g.state g.switches (length g.next) (length g.lamps) (sym z ∙ ticked.answers),
  λ a.
      let records = records_pass g.counts g.state g.switches a.given_state.fits a.given_switches.fits a.given_state.good a.given_switches.good in
      ticked.answers
      ∙ sym (tick_passes g.counts g.table g.state g.switches (length g.next) (length g.lamps) (legal_accepted g.counts g.table a.legal_circuit) records a.next_fits a.lamps_fit),
)

-- ---- the chain, before 15

pub record ChainFits (g : ChainGiven) : Type 0 where
  pub legal_circuit : Legal g.counts g.table
  pub watched : 1 ≤ verdicts g.counts
  pub interval : g.w ≤ 1000
  pub one : cube_bytes g.counts.latches ≤ length g.cubes
  pub most : length g.cubes ≤ 65536

pub chain_accepted : (g : ChainGiven) → (refused_by g ≡ 0) ↔ ChainFits g
unfolding refused_by chain_tests
chain_accepted g = (
  λ z.
      let p = none_append (board_tests g.counts g.table) _ (board_numbered g.counts g.table) (sym z) in
      let board = (board_accepted g.counts g.table).0 p.0 in
      let q = passes _ (omega arith) p.1 in
      record { legal_circuit = board.0; watched = board.1; interval = omega (arith, leb-true); one = omega (arith, leb-true); most = omega (arith, leb-true) },
  λ f.
      sym (none_past (board_tests g.counts g.table) _ (board_numbered g.counts g.table) ((board_accepted g.counts g.table).1 (f.legal_circuit, f.watched))
      (past _ _ (le-leb g.w 1000 f.interval)
      (past _ _ (le-leb (cube_bytes g.counts.latches) (length g.cubes) f.one) (past _ _ (le-leb (length g.cubes) 65536 f.most) none)))),
)

-- ---- a writer of either form: a buffer of exactly its bytes will do

pub write_accepted : {c : Counts} {table written buffer : List ℕ} {number bytes : ℕ} {buffer' : List ℕ} → WrittenBy c table written buffer number bytes buffer'
    → (number ≡ 0) ↔ (Legal c table × (length written ≤ length buffer))
unfolding putting_tests
write_accepted {c} {table} {written} {buffer} w = (
  λ z.
      let e = sym z ∙ w.answers in
      let p = none_append (circuit_tests c table) _ (circuit_numbered c table) e in
      let q = passes _ (omega arith) p.1 in
      (legal c table p.0, leb-true (length written) (length buffer) q.0),
  λ f. w.answers ∙ sym (write_fits c table written buffer (legal_accepted c table f.0) f.1),
)

-- The tick: what its refusals leave out, and that what is stored is the circuit's next state and lamps. Assumes nothing.
use mathlib.Core.Path.{◌≡◌, refl, sym, ◌∙◌}
use mathlib.Core.Bool.{true, false}
use mathlib.Core.List.{List, ◌∷◌, ◌++◌}
use Prim.Native.Nat.{ℕ, ◌<◌, ◌≤◌}
use native.Mathlib.Omega.{arith}
use borrow.Author.Tests.{leb-true, le-leb, lt-leb}
use lib.Dec.{leb}
use lib.ListN.{length}
use Rattle.three.specs.Lists.{over}
use Rattle.three.specs.Record.{bytes_for, pack, sound}
use Rattle.three.specs.RecordInCode.{IsRecord}
use Rattle.std.specs.Prelude.{Result, IsErrAnd}
use Rattle.circuit.specs.declared.Counts.{Counts}
use Rattle.circuit.specs.declared.Refusal.{Refusal}
use Rattle.circuit.specs.Answer.{number_of, answered}
use Rattle.circuit.proofs.Answering.{numbered, handed_back}
use Rattle.circuit.specs.Refusal.{Test, ◌or◌, refusal}
use Rattle.circuit.specs.Table.{circuit_tests}
use Rattle.circuit.specs.RulesInCode.{Legal}
use Rattle.tick.specs.Tick.{record_tests, tick_result_tests, TickGiven, tick_tests, next_fields, lamp_fields, Ticked}
use Rattle.circuit.proofs.Refusals.{Numbered, stops, past, none, passes, none_append, refuses_whole, none_past, refused_old, accepted_new}
use Rattle.circuit.proofs.Legality.{circuit_numbered, legal}

-- ---- records that are not refused

module _ (c : Counts) (state switches : List ℕ) where
  pub state_short : length state < bytes_for c.latches → 10 ≡ refusal (record_tests c state switches)
  unfolding record_tests
  state_short h = stops _ _ (lt-leb (bytes_for c.latches) (length state) h)

  pub switches_short : bytes_for c.latches ≤ length state → length switches < bytes_for c.inputs → 10 ≡ refusal (record_tests c state switches)
  unfolding record_tests
  switches_short l h = past _ _ (le-leb (bytes_for c.latches) (length state) l) (stops _ _ (lt-leb (bytes_for c.inputs) (length switches) h))

  module _ (l : bytes_for c.latches ≤ length state) (i : bytes_for c.inputs ≤ length switches) where
    past_lengths : (ts : List Test) {k : ℕ} → k ≡ refusal ts → k ≡ refusal (leb (bytes_for c.latches) (length state) or 10 ∷ leb (bytes_for c.inputs) (length switches) or 10 ∷ ts)
    past_lengths ts e = past _ _ (le-leb (bytes_for c.latches) (length state) l) (past _ _ (le-leb (bytes_for c.inputs) (length switches) i) e)

    pub state_bad : sound c.latches state ≡ false → 14 ≡ refusal (record_tests c state switches)
    unfolding record_tests
    state_bad h = past_lengths _ (stops _ _ h)

    pub switches_bad : sound c.latches state ≡ true → sound c.inputs switches ≡ false → 14 ≡ refusal (record_tests c state switches)
    unfolding record_tests
    switches_bad s h = past_lengths _ (past _ _ s (stops _ _ h))

    pub records_pass : sound c.latches state ≡ true → sound c.inputs switches ≡ true → 0 ≡ refusal (record_tests c state switches)
    unfolding record_tests
    records_pass s h = past_lengths _ (past _ _ s (past _ _ h none))

  record_numbered : Numbered (record_tests c state switches)
  unfolding record_tests
  record_numbered = omega arith

  pub given_records : 0 ≡ refusal (record_tests c state switches) → IsRecord c.latches state × IsRecord c.inputs switches
  unfolding record_tests
  given_records e = let p = passes (record_tests c state switches) record_numbered e in (
    record { fits = leb-true (bytes_for c.latches) (length state) p.0; good = p.1.1.0 },
    record { fits = leb-true (bytes_for c.inputs) (length switches) p.1.0; good = p.1.1.1.0 },
  )

-- ---- buffers for the results that are not refused

module _ (c : Counts) (n l : ℕ) where
  pub next_short : n < bytes_for c.latches → 10 ≡ refusal (tick_result_tests c n l)
  unfolding tick_result_tests
  next_short h = stops _ _ (lt-leb (bytes_for c.latches) n h)

  module _ (next_fits : bytes_for c.latches ≤ n) where
    pub lamps_short : l < bytes_for c.lamps → 10 ≡ refusal (tick_result_tests c n l)
    unfolding tick_result_tests
    lamps_short h = past _ _ (le-leb (bytes_for c.latches) n next_fits) (stops _ _ (lt-leb (bytes_for c.lamps) l h))

    pub results_pass : bytes_for c.lamps ≤ l → 0 ≡ refusal (tick_result_tests c n l)
    unfolding tick_result_tests
    results_pass h = past _ _ (le-leb (bytes_for c.latches) n next_fits) (past _ _ (le-leb (bytes_for c.lamps) l h) none)

  pub results_fit : 0 ≡ refusal (tick_result_tests c n l) → (bytes_for c.latches ≤ n) × (bytes_for c.lamps ≤ l)
  unfolding tick_result_tests
  results_fit e = let p = passes (tick_result_tests c n l) (omega arith) e in (leb-true (bytes_for c.latches) n p.0, leb-true (bytes_for c.lamps) l p.1.0)

-- ---- all refusals, in order

module _ (c : Counts) (table state switches : List ℕ) (n l : ℕ) where
  abbrev number : ℕ
  number = refusal (tick_tests c table state switches n l)

  pub circuit_refuses : (k : ℕ) → k ≡ refusal (circuit_tests c table) → (k ≡ 0 → ⊥) → k ≡ number
  unfolding tick_tests
  circuit_refuses = refuses_whole (circuit_tests c table) _

  module _ (circuit_passes : 0 ≡ refusal (circuit_tests c table)) where
    past_circuit : (ts : List Test) {k : ℕ} → k ≡ refusal ts → k ≡ refusal (circuit_tests c table ++ ts)
    past_circuit ts = none_past (circuit_tests c table) ts (circuit_numbered c table) circuit_passes

    pub records_refuse : (k : ℕ) → k ≡ refusal (record_tests c state switches) → (k ≡ 0 → ⊥) → k ≡ number
    unfolding tick_tests
    records_refuse k e h = past_circuit _ (refuses_whole (record_tests c state switches) _ k e h)

    pub results_decide : 0 ≡ refusal (record_tests c state switches) → {k : ℕ} → k ≡ refusal (tick_result_tests c n l) → k ≡ number
    unfolding tick_tests
    results_decide records_pass e = past_circuit _ (none_past (record_tests c state switches) (tick_result_tests c n l) (record_numbered c state switches) records_pass e)

    pub tick_passes : 0 ≡ refusal (record_tests c state switches) → bytes_for c.latches ≤ n → bytes_for c.lamps ≤ l → 0 ≡ number
    tick_passes records_pass next_fits lamps_fit = results_decide records_pass (results_pass c n l next_fits lamps_fit)

  -- what holds where nothing is refused
  pub record Accepted : Type 0 where
    pub legal_circuit : Legal c table
    pub given_state : IsRecord c.latches state
    pub given_switches : IsRecord c.inputs switches
    pub next_fits : bytes_for c.latches ≤ n
    pub lamps_fit : bytes_for c.lamps ≤ l

  pub accepted_tick : 0 ≡ number → Accepted
  unfolding tick_tests
  accepted_tick e =
      let p = none_append (circuit_tests c table) _ (circuit_numbered c table) e in
      let q = none_append (record_tests c state switches) _ (record_numbered c state switches) p.1 in
      let given = given_records c state switches q.0 in
      let fit = results_fit c n l q.1 in
      record { legal_circuit = legal c table p.0; given_state = given.0; given_switches = given.1; next_fits = fit.0; lamps_fit = fit.1 }

-- ---- what the tick leaves

module _ (g : TickGiven) where
  -- `?` answers the refusal e
  pub tick_refused : {A : Type 0} (r : Result A Refusal) (e : Refusal) → IsErrAnd r (λ x. x ≡ e) → number_of e ≡ refusal (tick_tests g.counts g.table g.state g.switches (length g.next) (length g.lamps))
      → Ticked g (answered r) g.next g.lamps
  tick_refused r e made same =
      let k : answered r ≡ number_of e = handed_back r e made refl in
      let some : (answered r ≡ 0 → ⊥) = λ z. numbered e (sym k ∙ z) in
      record { answers = k ∙ same; fills_next = refused_old (answered r) _ _ some; fills_lamps = refused_old (answered r) _ _ some }

  pub tick_done : 0 ≡ refusal (tick_tests g.counts g.table g.state g.switches (length g.next) (length g.lamps)) → {next lamps : List ℕ}
      → next ≡ over (pack (next_fields g.counts g.table g.state g.switches)) g.next
      → lamps ≡ over (pack (lamp_fields g.counts g.table g.state g.switches)) g.lamps
      → Ticked g 0 next lamps
  tick_done answer n l = record { answers = answer; fills_next = n ∙ accepted_new 0 _ _ refl; fills_lamps = l ∙ accepted_new 0 _ _ refl }

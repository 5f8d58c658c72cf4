-- The refusals of `why` in order: what each test that fails, and all that hold, say of the number. Assumes nothing.
use mathlib.Core.Path.{◌≡◌}
use mathlib.Core.Bool.{true, false, not, false≢true}
use mathlib.Core.List.{List, ◌∷◌, ◌++◌}
use Prim.Native.Nat.{ℕ, ◌<◌, ◌≤◌}
use native.Mathlib.Omega.{arith}
use borrow.Author.Tests.{leb-true, ltb-true, le-leb, lt-leb, le-ltb, lt-ltb}
use lib.Dec.{leb}
use lib.ListN.{length}
use Rattle.three.specs.Value.{Three, unknown, code}
use Rattle.three.specs.Cube.{alike}
use Rattle.three.specs.Record.{bytes_for, unpack, sound}
use Rattle.three.specs.RecordInCode.{IsRecord}
use Rattle.three.proofs.Lists.{by_test}
use Rattle.three.proofs.Fields.{alike_same}
use Rattle.circuit.specs.declared.Counts.{Counts}
use Rattle.circuit.specs.Refusal.{Test, ◌or◌, refusal}
use Rattle.circuit.specs.Table.{circuit_of, circuit_tests}
use Rattle.circuit.specs.RulesInCode.{Legal}
use Rattle.circuit.proofs.Refusals.{Numbered, stops, past, none, passes, none_past, none_append, refuses_whole, refused_old}
use Rattle.circuit.proofs.Legality.{circuit_numbered, legal}
use Rattle.asked.specs.Call.{lamp_in, given_tests, answer_tests, why_tests, WhyGiven, Explained}

-- ---- the given record, and the lamp's number

module _ (c : Counts) (state : List ℕ) (lamp : ℕ) where
  pub state_short : length state < bytes_for c.latches → 10 ≡ refusal (given_tests c state lamp)
  unfolding given_tests
  state_short h = stops _ _ (lt-leb (bytes_for c.latches) (length state) h)

  module _ (l : bytes_for c.latches ≤ length state) where
    past_short : (ts : List Test) {k : ℕ} → k ≡ refusal ts → k ≡ refusal (leb (bytes_for c.latches) (length state) or 10 ∷ ts)
    past_short ts e = past _ _ (le-leb (bytes_for c.latches) (length state) l) e

    pub state_bad : sound c.latches state ≡ false → 14 ≡ refusal (given_tests c state lamp)
    unfolding given_tests
    state_bad h = past_short _ (stops _ _ h)

    pub no_lamp : sound c.latches state ≡ true → c.lamps ≤ lamp → 23 ≡ refusal (given_tests c state lamp)
    unfolding given_tests
    no_lamp s h = past_short _ (past _ _ s (stops _ _ (le-ltb lamp c.lamps h)))

    pub given_passes : sound c.latches state ≡ true → lamp < c.lamps → 0 ≡ refusal (given_tests c state lamp)
    unfolding given_tests
    given_passes s h = past_short _ (past _ _ s (past _ _ (lt-ltb lamp c.lamps h) none))

  given_numbered : Numbered (given_tests c state lamp)
  unfolding given_tests
  given_numbered = omega arith

  pub given_facts : 0 ≡ refusal (given_tests c state lamp) → IsRecord c.latches state × (lamp < c.lamps)
  unfolding given_tests
  given_facts e =
      let p = passes (given_tests c state lamp) given_numbered e in
      (record { fits = leb-true (bytes_for c.latches) (length state) p.0; good = p.1.0 }, ltb-true lamp c.lamps p.1.1.0)

-- ---- the lamp's value, and the result's length

module _ (c : Counts) (table state : List ℕ) (lamp why : ℕ) where
  pub value_unknown : lamp_in (circuit_of c table) (unpack c.latches state) lamp ≡ unknown → 24 ≡ refusal (answer_tests c table state lamp why)
  unfolding answer_tests alike code
  value_unknown e = stops _ _ (rw e)

  module _ (known : lamp_in (circuit_of c table) (unpack c.latches state) lamp ≡ unknown → ⊥) where
    is_known : not (alike (lamp_in (circuit_of c table) (unpack c.latches state) lamp) unknown) ≡ true
    is_known = by_test (alike (lamp_in (circuit_of c table) (unpack c.latches state) lamp) unknown) (λ t. absurd (known (alike_same _ _ t))) (λ t. rw t)

    pub why_short : why < bytes_for c.latches → 10 ≡ refusal (answer_tests c table state lamp why)
    unfolding answer_tests
    why_short l = past _ _ is_known (stops _ _ (lt-leb (bytes_for c.latches) why l))

    pub answer_passes : bytes_for c.latches ≤ why → 0 ≡ refusal (answer_tests c table state lamp why)
    unfolding answer_tests
    answer_passes l = past _ _ is_known (past _ _ (le-leb (bytes_for c.latches) why l) none)

known_not : (a : Three) → not (alike a unknown) ≡ true → a ≡ unknown → ⊥
unfolding alike code
known_not a t e = false≢true (rw e at t)

-- ---- the whole call

-- what holds where nothing is refused
pub record Accepted (c : Counts) (table state : List ℕ) (lamp : ℕ) : Type 0 where
  pub legal_circuit : Legal c table
  pub is_lamp : lamp < c.lamps
  pub known : lamp_in (circuit_of c table) (unpack c.latches state) lamp ≡ unknown → ⊥

module _ (g : WhyGiven) where
  abbrev circuit_tests_lem : List Test
  circuit_tests_lem = circuit_tests g.counts g.table

  abbrev given_tests_lem : List Test
  given_tests_lem = given_tests g.counts g.state g.lamp

  abbrev answer_tests_lem : List Test
  answer_tests_lem = answer_tests g.counts g.table g.state g.lamp (length g.why)

  pub circuit_stops : {k : ℕ} → k ≡ refusal circuit_tests_lem → (k ≡ 0 → ⊥) → Explained g k g.why
  unfolding why_tests
  circuit_stops {k} e h = record { answers = refuses_whole circuit_tests_lem _ k e h; fills = refused_old k _ _ h }

  module _ (circuit_passes : 0 ≡ refusal circuit_tests_lem) where
    past_circuit : (ts : List Test) {k : ℕ} → k ≡ refusal ts → k ≡ refusal (circuit_tests_lem ++ ts)
    past_circuit ts = none_past circuit_tests_lem ts (circuit_numbered g.counts g.table) circuit_passes

    pub given_stops : {k : ℕ} → k ≡ refusal given_tests_lem → (k ≡ 0 → ⊥) → Explained g k g.why
    unfolding why_tests
    given_stops {k} e h = record { answers = past_circuit _ (refuses_whole given_tests_lem _ k e h); fills = refused_old k _ _ h }

    pub answer_decides : 0 ≡ refusal given_tests_lem → {k : ℕ} → k ≡ refusal answer_tests_lem → k ≡ refusal (why_tests g.counts g.table g.state g.lamp (length g.why))
    unfolding why_tests
    answer_decides e a = past_circuit _ (none_past given_tests_lem _ (given_numbered g.counts g.state g.lamp) e a)

  answer_numbered : Numbered answer_tests_lem
  unfolding answer_tests
  answer_numbered = omega arith

  pub accepted : 0 ≡ refusal (why_tests g.counts g.table g.state g.lamp (length g.why)) → Accepted g.counts g.table g.state g.lamp
  unfolding why_tests answer_tests
  accepted e =
      let p = none_append circuit_tests_lem _ (circuit_numbered g.counts g.table) e in
      let q = none_append given_tests_lem _ (given_numbered g.counts g.state g.lamp) p.1 in
      record {
        legal_circuit = legal g.counts g.table p.0;
        is_lamp = (given_facts g.counts g.state g.lamp q.0).1;
        known = known_not _ (passes answer_tests_lem answer_numbered q.1).0;
      }

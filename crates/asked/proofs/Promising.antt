-- What an answer promises follows from the contract alone. Assumes nothing.
use mathlib.Core.Path.{◌≡◌, sym, ap, ◌∙◌}
use mathlib.Core.Bool.{Bool, true, false}
use mathlib.Core.List.{List}
use Prim.Native.Nat.{ℕ}
use native.Mathlib.Omega.{arith}
use lib.ListN.{length, get_or}
use Rattle.three.specs.Value.{known, boolean}
use Rattle.three.specs.Cube.{Cube, subsumes, ◌∋◌}
use Rattle.three.specs.Record.{unpack}
use Rattle.three.proofs.Pack.{length_unpack, unpack_over}
use Rattle.circuit.specs.declared.Counts.{Counts}
use Rattle.circuit.specs.Circuit.{Circuit, lamps}
use Rattle.circuit.specs.Table.{circuit_of}
use Rattle.circuit.proofs.Refusals.{accepted_new}
use Rattle.cubes.proofs.Reading.{lamps_within, known_at}
use Rattle.asked.specs.Call.{lamp_in, lamp_literal, why_fields, WhyGiven, Explained}
use Rattle.asked.specs.Promise.{circuit_in, state_in, Enough, Suffices}
use Rattle.asked.proofs.Circuits.{latch_count, gate_count, first_gate_lem, legal_falling, literal_within, lamp_read}
use Rattle.asked.proofs.Refusing.{Accepted, accepted}
use Rattle.asked.proofs.Forcing.{length_forcing, same_value, forgets}

module _ (c : Counts) (table state : List ℕ) (lamp : ℕ) (ok : Accepted c table state lamp) where
  sized : length (unpack c.latches state) ≡ length (circuit_of c table).latches
  sized = length_unpack c.latches state ∙ sym (latch_count c table)

  why_sized : length (why_fields c table state lamp) ≡ c.latches
  unfolding why_fields
  why_sized = length_forcing (circuit_of c table) (legal_falling c table ok.legal_circuit) (unpack c.latches state) sized (lamp_literal (circuit_of c table) lamp) ∙ length_unpack c.latches state

  why_same : lamp_in (circuit_of c table) (why_fields c table state lamp) lamp ≡ lamp_in (circuit_of c table) (unpack c.latches state) lamp
  unfolding why_fields
  why_same =
      let read = lamp_read c table lamp ok.is_lamp in
      let within = literal_within c table lamp ok.is_lamp ok.legal_circuit in
      read _
      ∙ same_value (circuit_of c table) (legal_falling c table ok.legal_circuit) (unpack c.latches state) sized (lamp_literal (circuit_of c table) lamp)
      (omega (arith, within, first_gate_lem c table, gate_count c table)) (λ e. ok.known (read _ ∙ e))
      ∙ sym (read _)

  why_forgets : subsumes (why_fields c table state lamp) (unpack c.latches state) ≡ true
  unfolding why_fields
  why_forgets = forgets (circuit_of c table) (legal_falling c table ok.legal_circuit) (unpack c.latches state) sized (lamp_literal (circuit_of c table) lamp)

-- what is known of a lamp in a cube is what it is in each state of the cube
lamp_forced : (c : Circuit) (cube : Cube) (lamp : ℕ) (b : Bool) → lamp_in c cube lamp ≡ known b → (switches state : List Bool) → length switches ≡ c.inputs → cube ∋ state
    → get_or (lamps boolean c switches state) lamp false ≡ b
unfolding lamp_in
lamp_forced c cube lamp b is switches state sized inside = known_at (lamps_within c inside switches sized) lamp b is

module _ (g : WhyGiven) (number : ℕ) (why : List ℕ) (e : Explained g number why) where
  enough : number ≡ 0 → Enough g why
  unfolding circuit_in state_in circuit_of
  enough z =
      let ok = accepted g (sym z ∙ e.answers) in
      let fields : Cube = why_fields g.counts g.table g.state g.lamp in
      let read : unpack g.counts.latches why ≡ fields =
      ap (unpack g.counts.latches) (e.fills ∙ sym (accepted_new number _ _ z)) ∙ unpack_over g.counts.latches fields g.why (why_sized _ _ _ _ ok) in
      let same : lamp_in (circuit_in g) (state_in g why) g.lamp ≡ lamp_in (circuit_in g) (state_in g g.state) g.lamp = rw read (why_same _ _ _ _ ok) in
      record {
        same = same;
        forced = λ b is switches state sized inside. lamp_forced (circuit_in g) (state_in g why) g.lamp b (same ∙ is) switches state sized inside;
        forgets = rw read (why_forgets _ _ _ _ ok);
      }

  pub promises : Suffices g number why
  promises = record { explains = enough }

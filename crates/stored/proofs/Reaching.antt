-- A working table with all switches X serves pass after pass: each gives the circuit's values for the state that was loaded. Assumes nothing.
use mathlib.Core.Path.{◌≡◌, sym, ap, ◌∙◌}
use mathlib.Core.Bool.{Bool}
use mathlib.Core.List.{List, ◌∷◌, ◌++◌}
use Prim.Native.Nat.{ℕ, ◌+◌, ◌-◌, ◌≤◌}
use native.Mathlib.Omega.{arith}
use lib.ListN.{length, get_or, take, drop, replicate, length-drop, length-replicate, length-append}
use lib.Seq.{paste, take_all, take-take}
use Rattle.three.specs.Lists.{over}
use Rattle.three.specs.Value.{Three, unknown, low, ternary}
use Rattle.three.specs.Cube.{Cube}
use Rattle.three.specs.Record.{bytes_for, pack, unpack}
use Rattle.three.specs.RecordInCode.{IsRecord}
use Rattle.three.proofs.Lists.{tabulate_ext}
use Rattle.three.proofs.Filling.{over_fields}
use Rattle.three.proofs.Pack.{unpack_over}
use Rattle.three.proofs.Soundness.{record_over}
use Rattle.circuit.specs.declared.Counts.{Counts}
use Rattle.circuit.specs.Circuit.{Circuit, pass, settle}
use Rattle.circuit.specs.Table.{verdicts, circuit_of, literals_at, constraints_at}
use Rattle.circuit.specs.RulesInCode.{Legal}
use Rattle.circuit.proofs.Pass.{length_pass, pass_front}
use Rattle.pass.specs.ValuesInCode.{values_of, Begins, literal_values}
use Rattle.pass.proofs.Settling.{switches_settle, next_stored, verdicts_stored, constraints_stored}
use Rattle.cubes.specs.Run.{switches_unknown, next_cube, watched, watched_in, some_low, blocked}
use Rattle.cubes.specs.HeldInCode.{kept_byte}
use Rattle.stored.specs.CubesInCode.{kept_bytes, SwitchesX, Settled}
use Rattle.cubes.specs.Buffer.{cube_bytes, cube_of}
use Rattle.cubes.specs.BufferInCode.{longest_cube}
use Rattle.cubes.proofs.StoredCube.{cube_of_sized}
use Rattle.cubes.proofs.Held.{Bytes, packed_byte, padded_byte}

module _ (c : Counts) (words : List ℕ) where
  -- the constant and all switches X
  abbrev front : List Three
  front = low ∷ replicate c.inputs unknown

  pub state_settles : (t t' state : List ℕ) → SwitchesX c t → Begins t' (pass ternary (take (1 + c.inputs) (values_of t) ++ unpack c.latches state) (circuit_of c words).gates)
      → Settled c words (unpack c.latches state) t'
  unfolding switches_unknown circuit_of
  state_settles t t' state r b = switches_settle c words _ _ (length-replicate c.inputs unknown) t t' r b

  -- the latches of a cube were stored first
  module _ (bytes d state : List ℕ) (stored : state ≡ over (pack (cube_of c.latches bytes)) d) where
    pub latches_record : bytes_for c.latches ≤ length d → IsRecord c.latches state
    latches_record room = rw stored (record_over c.latches (cube_of c.latches bytes) d (cube_of_sized c.latches bytes) room)

    pub cube_settles : (t t' : List ℕ) → SwitchesX c t → Begins t' (pass ternary (take (1 + c.inputs) (values_of t) ++ unpack c.latches state) (circuit_of c words).gates)
        → Settled c words (cube_of c.latches bytes) t'
    cube_settles t t' r b =
        let read : unpack c.latches state ≡ cube_of c.latches bytes = rw stored (unpack_over c.latches (cube_of c.latches bytes) d (cube_of_sized c.latches bytes)) in
        rw (← read) (state_settles t t' state r b)

  pub ready_again : (t : List ℕ) (state : Cube) → Settled c words state t → SwitchesX c t
  unfolding settle ternary switches_unknown circuit_of
  ready_again t state b = record {
    working = b.working;
    same =
        let long : length front ≤ length (pass ternary (front ++ state) (circuit_of c words).gates) = rw (length_pass, length-append) (omega arith) in
        sym (take-take (length front) _ (values_of t) long)
        ∙ ap (take (length front)) b.same
        ∙ pass_front ternary front state (circuit_of c words).gates;
  }

-- ---- the part of a buffer from a byte on, and the next state that is stored from a pass

pub part_tail : (l : List ℕ) (at : ℕ) → take (length l - at) (drop at l) ≡ drop at l
part_tail l at = take_all (length l - at) (drop at l) (omega (arith, length-drop at l))

kept_padded : (len : ℕ) (held : List ℕ) (v : Cube) → kept_bytes len held (over (pack v) (replicate longest_cube 0)) ≡ kept_bytes len held (pack v)
unfolding kept_bytes
kept_padded len held v = tabulate_ext len _ _ (λ i h. ap (λ (x : ℕ). kept_byte x (get_or held i 0)) (padded_byte v i longest_cube ∙ sym (packed_byte v i)))

module _ (c : Counts) (words : List ℕ) (legal : Legal c words) (state : Cube) (sized : length state ≡ c.latches) (t : List ℕ) where
  abbrev circuit : Circuit
  circuit = circuit_of c words

  unknown_sized : length (switches_unknown circuit) ≡ c.inputs
  unfolding switches_unknown circuit_of
  unknown_sized = length-replicate c.inputs unknown

  pub next_packed : Settled c words state t → (d next : List ℕ) → next ≡ over (pack (literal_values (values_of t) words 0 2 c.latches)) d → next ≡ over (pack (next_cube circuit state)) d
  unfolding next_cube
  next_packed settled d next e = over_fields d e (next_stored c words legal (switches_unknown circuit) state unknown_sized sized t settled)

  -- its bytes, where it was stored into zeros
  pub next_bytes : Settled c words state t → (next : List ℕ) → next ≡ over (pack (literal_values (values_of t) words 0 2 c.latches)) (replicate longest_cube 0)
      → (len : ℕ) → Bytes len (λ i. get_or next i 0) (next_cube circuit state)
  next_bytes settled next e len i h = ap (λ (l : List ℕ). get_or l i 0) (next_packed settled _ next e) ∙ padded_byte (next_cube circuit state) i longest_cube

  pub reach_stored : Settled c words state t → (held next b b' : List ℕ) (len : ℕ) → len ≡ cube_bytes c.latches
      → next ≡ over (pack (literal_values (values_of t) words 0 2 c.latches)) (replicate longest_cube 0) → b' ≡ paste b 0 (kept_bytes len held next) len
      → b' ≡ paste b 0 (kept_bytes (cube_bytes c.latches) held (pack (next_cube circuit state))) (cube_bytes c.latches)
  reach_stored settled held next b b' len el en eb =
      eb ∙ rw (el, next_packed settled _ next en, kept_padded (cube_bytes c.latches) held (next_cube circuit state))

  -- ---- what gets a verdict, stored from a pass, and the constraints, read from it

  pub watched_reached : Settled c words state t → literal_values (values_of t) words (literals_at c) 1 (verdicts c) ≡ watched_in circuit state
  unfolding watched_in watched
  watched_reached settled = verdicts_stored c words legal (switches_unknown circuit) state unknown_sized sized t settled

  pub blocked_reached : Settled c words state t → {r : Bool} → r ≡ some_low (literal_values (values_of t) words (constraints_at c) 1 c.constraints) → r ≡ blocked circuit state
  unfolding blocked
  blocked_reached settled e = e ∙ ap some_low (constraints_stored c words legal (switches_unknown circuit) state unknown_sized sized t settled)

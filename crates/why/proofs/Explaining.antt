-- What is marked, and so what is stored, are the latches that force a literal's value in a legal circuit. Assumes nothing.
use mathlib.Core.Path.{◌≡◌, refl, sym, ap, ap₂, ◌∙◌}
use mathlib.Core.Bool.{Bool, false, not, false≢true}
use mathlib.Core.List.{List, ◌++◌}
use Prim.Native.Nat.{ℕ, zero, suc, ◌+◌, ◌*◌, ◌/◌, ◌%◌, ◌<◌, ◌≤◌}
use native.Mathlib.Omega.{arith}
use lib.ListN.{length, get_or, take, replicate, length-replicate}
use Rattle.three.specs.Lists.{tabulate}
use Rattle.three.specs.Value.{Three, unknown, low, both, decode, ternary}
use Rattle.three.specs.Cube.{Cube, blank}
use Rattle.three.specs.Record.{pair_at, unpack}
use Rattle.three.proofs.Lists.{get_or_tabulate, tabulate_ext}
use Rattle.three.proofs.Pack.{length_unpack}
use Rattle.circuit.specs.declared.Counts.{Counts}
use Rattle.circuit.specs.Circuit.{value, pass}
use Rattle.circuit.specs.Table.{top, gates_at, circuit_of}
use Rattle.circuit.specs.RulesInCode.{Legal}
use Rattle.circuit.proofs.LiteralValue.{value_even}
use Rattle.pass.specs.ValuesInCode.{values_of, fresh_values, Holding, Begins}
use Rattle.pass.proofs.WorkingTable.{fresh_begins}
use Rattle.pass.proofs.Settling.{switches_settle, legal_gates, value_begins}
use Rattle.cubes.specs.Run.{switches_unknown}
use Rattle.asked.specs.Follow.{followed, gate_at, values_in, forces, forcing}
use Rattle.asked.specs.AskedInCode.{gate_in}
use Rattle.asked.proofs.Circuits.{latch_count, gate_count, first_gate_lem, gate_words_lem, legal_falls, legal_falling}
use Rattle.asked.proofs.Entries.{gate_entry}
use Rattle.asked.proofs.Reaching.{Falls, asked_same, reaches_asked, asked_reaches, gates_fall, followed_same}
use Rattle.why.specs.MarksInCode.{marked, Ready, FollowedMarks, followed_in, Askable, marked_fields}
use Rattle.why.proofs.Following.{exactly}

-- ---- a new working table has all switches X

pub unknown_begins : (c : Counts) (words t t' : List ℕ) (state : Cube) → c.inputs ≤ 256 → Holding t fresh_values
    → Begins t' (pass ternary (take (1 + c.inputs) (values_of t) ++ state) (circuit_of c words).gates) → Begins t' (values_in (circuit_of c words) state)
unfolding values_in switches_unknown circuit_of
unknown_begins c words t t' state h fresh b =
    switches_settle c words (replicate c.inputs unknown) state (length-replicate c.inputs unknown) t t' (fresh_begins t c.inputs (omega arith) fresh) b

-- no mark is set in new marks
unmarked : (u : ℕ) → marked (replicate 4096 false) u ≡ false
unfolding marked
unmarked u = none 4096 u
  where
    none : (n i : ℕ) → ◌≡◌ {A = Bool} (get_or (replicate n false) i false) false
    none zero i = refl
    none (suc n) zero = refl
    none (suc n) (suc i) = none n i

-- ---- what the working table says of the circuit

module _ (c : Counts) (words : List ℕ) (legal : Legal c words) (state : Cube) (sized : length state ≡ c.latches) (table : List ℕ)
    (begins : Begins table (values_in (circuit_of c words) state)) where
  abbrev first : ℕ
  first = 1 + c.inputs + c.latches

  pub value_at : (x : ℕ) → x ≤ top c → value ternary (values_of table) x ≡ value ternary (values_in (circuit_of c words) state) x
  unfolding values_in switches_unknown circuit_of
  value_at x h = value_begins c words legal (replicate c.inputs unknown) state (length-replicate c.inputs unknown) sized table begins x h

  entry_at : (v : ℕ) → v < first + c.gates → get_or (values_of table) v low ≡ get_or (values_in (circuit_of c words) state) v low
  entry_at v h =
      let even : 2 * v % 2 ≡ 0 = omega arith in
      let place : 2 * v / 2 ≡ v = omega arith in
      rw place at (sym (value_even (values_of table) (2 * v) even) ∙ value_at (2 * v) (omega arith) ∙ value_even (values_in (circuit_of c words) state) (2 * v) even)

  latches_sized : length state ≡ length (circuit_of c words).latches
  latches_sized = sized ∙ sym (latch_count c words)

  entries : (i : ℕ) → i < c.gates → get_or (values_of table) (first + i) low
      ≡ both (value ternary (values_of table) (get_or words (gates_at c + 2 * i) 0)) (value ternary (values_of table) (get_or words (gates_at c + 2 * i + 1) 0))
  entries i h =
      entry_at (first + i) (omega arith)
      ∙ rw (gate_words_lem c words i h, first_gate_lem c words) at (gate_entry (circuit_of c words) state latches_sized (legal_falling c words legal) i (omega (arith, gate_count c words)))
      ∙ ap₂ both (sym (value_at (get_or words (gates_at c + 2 * i) 0) (omega (arith, legal.left i h)))) (sym (value_at (get_or words (gates_at c + 2 * i + 1) 0) (omega (arith, legal.right i h))))

  module _ (x : ℕ) (within : x ≤ top c) where
    literal_askable : Askable words (gates_at c) first table x (value ternary (values_of table) x)
    literal_askable =
        let g = legal_gates c words legal in
        record {
          gates = record { long = omega (arith, g.long); room = omega (arith, legal.bounded); left = λ i l. g.left i (omega arith); right = λ i l. g.right i (omega arith) };
          working = begins.working;
          settled = λ i l. entries i (omega arith);
          reads = refl;
        }

    -- no marks: nothing is followed yet
    fresh_ready : Ready (followed_in words (gates_at c) first table) (x / 2) (replicate 4096 false)
    fresh_ready = record { long = length-replicate {A = Bool} 4096 false; closed = λ v w l e f. absurd (false≢true (sym (unmarked v) ∙ e)) }

    -- as the code has the first gate's word
    pub first_asked : (at : ℕ) → at ≡ gates_at c → Askable words at first table x (value ternary (values_of table) x) × Ready (followed_in words at first table) (x / 2) (replicate 4096 false)
    first_asked at e = rw e (literal_askable, fresh_ready)

    below : x / 2 < first + c.gates
    below = omega arith

    falls_in : Falls (followed_in words (gates_at c) first table) (first + c.gates)
    falls_in = gates_fall first c.gates (gate_in words (gates_at c)) (values_of table) (λ i h. (legal.left i h, legal.right i h))

    falls_of : Falls (followed first (gate_at (circuit_of c words)) (values_in (circuit_of c words) state)) (first + c.gates)
    falls_of = gates_fall first c.gates (gate_at (circuit_of c words)) (values_in (circuit_of c words) state) (legal_falls c words legal)

    same_followed : (v : ℕ) → v < first + c.gates → followed first (gate_at (circuit_of c words)) (values_in (circuit_of c words) state) v ≡ followed_in words (gates_at c) first table v
    same_followed = followed_same first c.gates (gate_at (circuit_of c words)) (values_in (circuit_of c words) state) (gate_in words (gates_at c)) (values_of table)
        (gate_words_lem c words)
        (λ i h. sym (value_at (get_or words (gates_at c + 2 * i) 0) (omega (arith, legal.left i h))))
        (λ v h. sym (entry_at v h))

    -- from no marks a latch is marked where it forces the literal's value
    marked_forces : (marks : List Bool) → FollowedMarks (followed_in words (gates_at c) first table) (replicate 4096 false) marks (x / 2)
        → (i : ℕ) → marked marks (1 + c.inputs + i) ≡ forces (circuit_of c words) state x i
    unfolding forces circuit_of
    marked_forces marks f i = rw (first_gate_lem c words)
        (exactly (followed_in words (gates_at c) first table) (λ v w h. falls_in v w (omega (arith, below))) f.followed_from unmarked (1 + c.inputs + i) _
        (λ e. asked_same _ _ (first + c.gates) falls_of same_followed below (reaches_asked first (gate_at (circuit_of c words)) (values_in (circuit_of c words) state) (x / 2) (x / 2) (1 + c.inputs + i) e))
        (λ a. asked_reaches first (gate_at (circuit_of c words)) (values_in (circuit_of c words) state) (first + c.gates) falls_of (x / 2) (x / 2) (1 + c.inputs + i) (omega arith) below
        (asked_same _ _ (first + c.gates) falls_in (λ v h. sym (same_followed v h)) below a)))

-- ---- the fields that are stored

get_or_unpack : (f : ℕ) (bytes : List ℕ) (i : ℕ) → i < f → get_or (unpack f bytes) i unknown ≡ decode (pair_at bytes i)
unfolding unpack
get_or_unpack f bytes i h = get_or_tabulate f _ i unknown h

module _ (c : Counts) (words : List ℕ) (legal : Legal c words) (bytes table : List ℕ) (begins : Begins table (values_in (circuit_of c words) (unpack c.latches bytes)))
    (x : ℕ) (within : x ≤ top c) where
  pub marked_forcing : (at : ℕ) → at ≡ gates_at c → (marks : List Bool) → FollowedMarks (followed_in words at (1 + c.inputs + c.latches) table) (replicate 4096 false) marks (x / 2)
      → marked_fields marks bytes (1 + c.inputs) c.latches ≡ forcing (circuit_of c words) (unpack c.latches bytes) x
  unfolding marked_fields forcing
  marked_forcing at e marks f =
      let state : Cube = unpack c.latches bytes in
      tabulate_ext c.latches _ _ (λ i h. ap₂ (λ (v : Three) (t : Bool). blank v (not t)) (sym (get_or_unpack c.latches bytes i h)) (marked_forces c words legal state (length_unpack c.latches bytes) table begins x within marks (rw e at f) i))
      ∙ ap (λ n. tabulate n (λ i. blank (get_or state i unknown) (not (forces (circuit_of c words) state x i)))) (sym (length_unpack c.latches bytes))

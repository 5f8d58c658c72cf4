-- The public tick (specification, 3.8): its refusals in order, and what it leaves. Assumes nothing.
use Rattle.std.specs.Prelude.{◌≡◌, List, [], ◌∷◌, ◌++◌, ℕ, leb, length}
use Rattle.three.specs.Lists.{over}
use Rattle.three.specs.Value.{ternary}
use Rattle.three.specs.Cube.{Cube}
use Rattle.three.specs.Record.{bytes_for, pack, unpack, sound}
use Rattle.circuit.specs.declared.Counts.{Counts}
use Rattle.circuit.specs.Circuit.{next, lamps}
use Rattle.circuit.specs.Refusal.{Test, ◌or◌, refusal, left_by}
use Rattle.circuit.specs.Table.{circuit_of, circuit_tests}

-- 10 for given records, 14
unfoldable pub record_tests : Counts → List ℕ → List ℕ → List Test
record_tests c state switches =
    leb (bytes_for c.latches) (length state) or 10 ∷ leb (bytes_for c.inputs) (length switches) or 10 ∷ sound c.latches state or 14 ∷ sound c.inputs switches or 14 ∷ []

-- 10 for results, by their lengths
unfoldable pub tick_result_tests : Counts → ℕ → ℕ → List Test
tick_result_tests c next lamps = leb (bytes_for c.latches) next or 10 ∷ leb (bytes_for c.lamps) lamps or 10 ∷ []

-- 3, 10 for the table, 11, 10 for given records, 14, 10 for results
unfoldable pub tick_tests : Counts → List ℕ → List ℕ → List ℕ → ℕ → ℕ → List Test
tick_tests c table state switches next lamps = circuit_tests c table ++ (record_tests c state switches ++ tick_result_tests c next lamps)

-- the next state and the lamps of the given state under the given switches
unfoldable pub next_fields : Counts → List ℕ → List ℕ → List ℕ → Cube
next_fields c table state switches = next ternary (circuit_of c table) (unpack c.inputs switches) (unpack c.latches state)

unfoldable pub lamp_fields : Counts → List ℕ → List ℕ → List ℕ → Cube
lamp_fields c table state switches = lamps ternary (circuit_of c table) (unpack c.inputs switches) (unpack c.latches state)

-- What a tick is given: counts, table, the state and switch records, and the two result buffers as they are lent
pub record TickGiven : Type 0 where
  pub counts : Counts
  pub table : List ℕ
  pub state : List ℕ
  pub switches : List ℕ
  pub next : List ℕ
  pub lamps : List ℕ

-- The contract of the tick: its number, and both buffers at exit. A refusal changes no byte; bytes beyond each record stay.
pub record Ticked (g : TickGiven) (number : ℕ) (next lamps : List ℕ) : Type 0 where
  pub answers : number ≡ refusal (tick_tests g.counts g.table g.state g.switches (length g.next) (length g.lamps))
  pub fills_next : next ≡ left_by number (over (pack (next_fields g.counts g.table g.state g.switches)) g.next) g.next
  pub fills_lamps : lamps ≡ left_by number (over (pack (lamp_fields g.counts g.table g.state g.switches)) g.lamps) g.lamps

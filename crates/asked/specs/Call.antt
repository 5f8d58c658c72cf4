-- The call `why` (specification, 5.13): its refusals in order, and what it leaves. Assumes nothing.
use Rattle.std.specs.Prelude.{◌≡◌, not, List, [], ◌∷◌, ◌++◌, ℕ, leb, ltb, length, get_or}
use Rattle.three.specs.Lists.{over}
use Rattle.three.specs.Value.{Three, unknown}
use Rattle.three.specs.Cube.{Cube, alike}
use Rattle.three.specs.Record.{bytes_for, pack, unpack, sound}
use Rattle.circuit.specs.declared.Counts.{Counts}
use Rattle.circuit.specs.Circuit.{Circuit}
use Rattle.circuit.specs.Refusal.{Test, ◌or◌, refusal, left_by}
use Rattle.circuit.specs.Table.{circuit_of, circuit_tests}
use Rattle.cubes.specs.Run.{lamps_in}
use Rattle.asked.specs.Follow.{forcing}

-- the value of a lamp in a state, all switches X
unfoldable pub lamp_in : Circuit → Cube → ℕ → Three
lamp_in c state lamp = get_or (lamps_in c state) lamp unknown

-- the literal of a lamp
unfoldable pub lamp_literal : Circuit → ℕ → ℕ
lamp_literal c lamp = get_or c.lamps lamp 0

-- 10 for the given record, 14, 23 no such lamp
unfoldable pub given_tests : Counts → List ℕ → ℕ → List Test
given_tests c state lamp =
    leb (bytes_for c.latches) (length state) or 10 ∷ sound c.latches state or 14 ∷ ltb lamp c.lamps or 23 ∷ []

-- 24 the lamp's value is X there, 10 for the result, by its length
unfoldable pub answer_tests : Counts → List ℕ → List ℕ → ℕ → ℕ → List Test
answer_tests c table state lamp why =
    not (alike (lamp_in (circuit_of c table) (unpack c.latches state) lamp) unknown) or 24 ∷ leb (bytes_for c.latches) why or 10 ∷ []

-- 3, 10 for the table, 11, 10 for the given record, 14, 23, 24, 10 for the result
unfoldable pub why_tests : Counts → List ℕ → List ℕ → ℕ → ℕ → List Test
why_tests c table state lamp why = circuit_tests c table ++ (given_tests c state lamp ++ answer_tests c table state lamp why)

-- the answer: the given state with only the latches left known that force the lamp
unfoldable pub why_fields : Counts → List ℕ → List ℕ → ℕ → Cube
why_fields c table state lamp = forcing (circuit_of c table) (unpack c.latches state) (lamp_literal (circuit_of c table) lamp)

-- What the call is given: counts, table, the state record, the lamp's number, and the result's buffer as it is lent
pub record WhyGiven : Type 0 where
  pub counts : Counts
  pub table : List ℕ
  pub state : List ℕ
  pub lamp : ℕ
  pub why : List ℕ

-- The contract: its number, and every byte of the result's buffer at exit, which a refusal leaves as it was
pub record Explained (g : WhyGiven) (number : ℕ) (why : List ℕ) : Type 0 where
  pub answers : number ≡ refusal (why_tests g.counts g.table g.state g.lamp (length g.why))
  pub fills : why ≡ left_by number (over (pack (why_fields g.counts g.table g.state g.lamp)) g.why) g.why

-- The values 0, 1 and X (specification, 2.1 to 2.3), and the two logics that a circuit is read in. Assumes nothing.
use Rattle.std.specs.Prelude.{Bool, true, false, not, ◌&&◌, ℕ, zero, suc}

-- X, 0 and 1
pub data Three : Type 0 where
  unknown low high : Three

-- the two bits of a value in a record (specification, 2.7): 00 unknown, 01 known 0, 10 known 1
unfoldable pub code : Three → ℕ
code v = elim v [ unknown ↦ 0 | low ↦ 1 | high ↦ 2 ]

-- the value that two bits stand for; 11 stands for none, and is refused before it is read
unfoldable pub decode : ℕ → Three
decode n = elim n [ zero ↦ unknown | suc zero ↦ low | suc (suc m) ↦ high ]

-- a Boolean as a value
unfoldable pub known : Bool → Three
known b = elim b [ false ↦ low | true ↦ high ]

-- the gate rule: 0 with anything is 0, 1 with 1 is 1, the rest X
unfoldable pub both : Three → Three → Three
both low b = low
both high b = b
both unknown b = elim b [ low ↦ low | high ↦ unknown | unknown ↦ unknown ]

-- inverting swaps 0 and 1 and keeps X
unfoldable pub inverse : Three → Three
inverse v = elim v [ unknown ↦ unknown | low ↦ high | high ↦ low ]

-- What a circuit needs of the values that it is read in: the constant false, the gate rule and inversion
pub record Logic (A : Type 0) : Type 0 where
  pub false : A
  pub and : A → A → A
  pub invert : A → A

unfoldable pub boolean : Logic Bool
boolean = record { false = false; and = ◌&&◌; invert = not }

unfoldable pub ternary : Logic Three
ternary = record { false = low; and = both; invert = inverse }

-- The number of each refusal (specification, 7.1), and of an answer that may be one. Assumes nothing.
use Rattle.std.specs.Prelude.{ℕ, Result, Ok, Err}
use Rattle.circuit.specs.declared.Refusal.{Refusal}
use Rattle.circuit.specs.declared.Refusal.TheVariants.{TextTooLong, FirstLine, OverCeiling, BodyLine, OwnLiteral, LiteralTooLarge, OperandNotBelow, Reset, Trailing, TooShort, BrokenTable, Interval, CubeBuffer, Unsound, NothingToJudge, StartNotCovered, NotAChain, Definition, Undefined, Loop, NoSuchLamp, LampUnknown, Beginners, Difference}

abbrev pub number_of : Refusal → ℕ
number_of TextTooLong = 1
number_of FirstLine = 2
number_of OverCeiling = 3
number_of BodyLine = 4
number_of OwnLiteral = 5
number_of LiteralTooLarge = 6
number_of OperandNotBelow = 7
number_of Reset = 8
number_of Trailing = 9
number_of TooShort = 10
number_of BrokenTable = 11
number_of Interval = 12
number_of CubeBuffer = 13
number_of Unsound = 14
number_of NothingToJudge = 16
number_of StartNotCovered = 17
number_of NotAChain = 19
number_of Definition = 20
number_of Undefined = 21
number_of Loop = 22
number_of NoSuchLamp = 23
number_of LampUnknown = 24
number_of Beginners = 25
number_of Difference = 26

-- the number of an answer: 0 where nothing is refused
abbrev pub answered : {A : Type 0} → Result A Refusal → ℕ
answered (Ok a) = 0
answered (Err r) = number_of r

-- what it says where nothing is refused; beside a refusal, zero
abbrev pub answer_or : {A : Type 0} → A → Result A Refusal → A
answer_or zero (Ok a) = a
answer_or zero (Err r) = zero

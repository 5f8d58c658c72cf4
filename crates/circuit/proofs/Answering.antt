-- Laws of the number of an answer: what `?` goes on with, and what it answers. Assumes nothing.
use mathlib.Core.Path.{◌≡◌, sym, ap, ◌∙◌}
use mathlib.Core.List.{List, ◌++◌}
use Prim.Native.Nat.{ℕ}
use native.Mathlib.Omega.{arith}
use Rattle.std.specs.Prelude.{Result, Ok, Err, IsErrAnd}
use Rattle.std.proofs.lemmas.Result.{err_from_is_err_and}
use Rattle.circuit.specs.declared.Refusal.{Refusal}
use Rattle.circuit.specs.declared.Refusal.TheVariants.{TextTooLong, FirstLine, OverCeiling, BodyLine, OwnLiteral, LiteralTooLarge, OperandNotBelow, Reset, Trailing, TooShort, BrokenTable, Interval, CubeBuffer, Unsound, NothingToJudge, StartNotCovered, NotAChain, Definition, Undefined, Loop, NoSuchLamp, LampUnknown, Beginners, Difference}
use Rattle.circuit.specs.Refusal.{Test, refusal}
use Rattle.circuit.specs.Answer.{number_of, answered}
use Rattle.circuit.proofs.Refusals.{refuses_whole}

-- every refusal has a number
pub numbered : (e : Refusal) → number_of e ≡ 0 → ⊥
numbered TextTooLong h = omega arith
numbered FirstLine h = omega arith
numbered OverCeiling h = omega arith
numbered BodyLine h = omega arith
numbered OwnLiteral h = omega arith
numbered LiteralTooLarge h = omega arith
numbered OperandNotBelow h = omega arith
numbered Reset h = omega arith
numbered Trailing h = omega arith
numbered TooShort h = omega arith
numbered BrokenTable h = omega arith
numbered Interval h = omega arith
numbered CubeBuffer h = omega arith
numbered Unsound h = omega arith
numbered NothingToJudge h = omega arith
numbered StartNotCovered h = omega arith
numbered NotAChain h = omega arith
numbered Definition h = omega arith
numbered Undefined h = omega arith
numbered Loop h = omega arith
numbered NoSuchLamp h = omega arith
numbered LampUnknown h = omega arith
numbered Beginners h = omega arith
numbered Difference h = omega arith

-- what `?` goes on with was not refused
pub went_on : {A : Type 0} (r : Result A Refusal) {a : A} {k : ℕ} → r ≡ Ok a → answered r ≡ k → 0 ≡ k
went_on r was e = sym (ap answered was) ∙ e

-- what `?` answers has the number of what it was asked of
pub turned_back : {A : Type 0} (r : Result A Refusal) {e : Refusal} {k : ℕ} → r ≡ Err e → answered r ≡ k → number_of e ≡ k
turned_back r was e = sym (ap answered was) ∙ e

-- the same, as the answer of `?`
pub handed_back : {A : Type 0} (r : Result A Refusal) (e : Refusal) {k : ℕ} → IsErrAnd r (λ x. x ≡ e) → number_of e ≡ k → answered r ≡ k
handed_back r e made same = let (x, was, is) = err_from_is_err_and r made in ap answered was ∙ (ap number_of is ∙ same)

-- it stands among the first tests
pub turned_whole : {A : Type 0} (r : Result A Refusal) (e : Refusal) (ss ts : List Test) → IsErrAnd r (λ x. x ≡ e) → number_of e ≡ refusal ss → answered r ≡ refusal (ss ++ ts)
turned_whole r e ss ts made same = handed_back r e made (refuses_whole ss ts (number_of e) same (numbered e))

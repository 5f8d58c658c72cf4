-- The outcome of reading (specification, 4.3): a value, or the number of a refusal. Assumes nothing.
use Rattle.std.specs.Prelude.{List, ℕ, zero, suc}
use Rattle.circuit.specs.Refusal.{Test, refusal}

pub data Outcome (A : Type 0) : Type 0 where
  accepted : A → Outcome A
  refused : ℕ → Outcome A

-- the number that a caller gets back: 0 where the call is accepted
unfoldable pub number_of : {A : Type 0} → Outcome A → ℕ
number_of o = elim o [ accepted a ↦ 0 | refused n ↦ n ]

-- tests in front of an outcome: the refusal of the first that fails
unfoldable pub tested : {A : Type 0} → List Test → Outcome A → Outcome A
tested ts o = elim (refusal ts) [ zero ↦ o | suc n ↦ refused (suc n) ]

-- further tests, of what is accepted
unfoldable pub further : {A : Type 0} → (A → List Test) → Outcome A → Outcome A
further ts o = elim o [ accepted a ↦ tested (ts a) (accepted a) | refused n ↦ refused n ]

-- f of what is accepted
unfoldable pub onward : {A B : Type 0} → (A → B) → Outcome A → Outcome B
onward f o = elim o [ accepted a ↦ accepted (f a) | refused n ↦ refused n ]

-- what a call leaves: f of what is accepted, and b after a refusal
unfoldable pub leaves : {A B : Type 0} → (A → B) → B → Outcome A → B
leaves f b o = elim o [ accepted a ↦ f a | refused n ↦ b ]

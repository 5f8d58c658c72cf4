-- `three::given_field` meets its contract: beyond the fields is X, and within them the function is asked. Assumes nothing.
use native.Mathlib.Omega.{arith}
use Rattle.three.proofs.Filling.{field_beyond}
use Rattle.three.proofs.given_field.Goals as goal

pub returns-then-i-count : goal.returns-then-i-count
returns-then-i-count g c = record { small = omega arith; same = λ fields v. field_beyond fields _ (omega (arith, c.if-i-count.true, v.sized)) }

pub returns : goal.returns
returns g c = record {
  small = c.requires.codes _ _ c.if-i-count.false c.field.ensures;
  same = λ fields v. v.gives _ _ c.if-i-count.false c.field.ensures;
}

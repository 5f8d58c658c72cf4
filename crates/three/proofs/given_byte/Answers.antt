-- `three::given_byte` meets its contract: its four fields are asked for, and packed. Assumes nothing.
use Rattle.three.proofs.Filling.{four_fields}
use Rattle.three.proofs.given_byte.Goals as goal

pub byte_of-requires : goal.byte_of-requires
byte_of-requires g c = (c.given_field-a.ensures.small, c.given_field-b.ensures.small, c.given_field-c.ensures.small, c.given_field-d.ensures.small)

pub returns : goal.returns
returns g c = λ fields v.
    four_fields fields _ (c.given_field-a.ensures.same fields v) (c.given_field-b.ensures.same fields v) (c.given_field-c.ensures.same fields v) (c.given_field-d.ensures.same fields v) c.byte_of.ensures

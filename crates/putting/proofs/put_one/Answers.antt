-- `putting::put_one` meets its contract: a number below 10 is its only digit. Assumes nothing.
use native.Mathlib.Omega.{arith}
use Rattle.text.proofs.Decimals.{length_small}
use Rattle.putting.proofs.Putting.{put_small}
use Rattle.putting.proofs.put_one.Goals as goal

pub put_digit-requires : goal.put_digit-requires
put_digit-requires c =
    (omega arith, omega (arith, length_small c.args.n (omega arith)))

pub returns : goal.returns
returns c = put_small _ (omega arith) c.put_digit.ensures

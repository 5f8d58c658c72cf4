-- `putting::put_three` meets its contract: the first two digits, and then the last. Assumes nothing.
use native.Mathlib.Omega.{arith}
use Rattle.text.proofs.Decimals.{length_more}
use Rattle.putting.proofs.Putting.{put_more}
use Rattle.putting.proofs.put_three.Goals as goal

pub put_two-last-requires : goal.put_two-last-requires
put_two-last-requires c =
    (omega arith, omega arith, omega (arith, length_more c.args.n (omega arith)))

pub put_digit-requires : goal.put_digit-requires
put_digit-requires c =
    (omega arith, omega (arith, length_more c.args.n (omega arith)))

pub returns : goal.returns
returns c =
    put_more _ (omega arith) c.put_two-last.ensures c.put_digit.ensures

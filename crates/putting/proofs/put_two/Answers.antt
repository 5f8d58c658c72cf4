-- `putting::put_two` meets its contract: the first digit, and then the last. Assumes nothing.
use native.Mathlib.Omega.{arith}
use Rattle.text.proofs.Decimals.{length_more}
use Rattle.putting.proofs.Putting.{put_more}
use Rattle.putting.proofs.put_two.Goals as goal

pub put_one-last-requires : goal.put_one-last-requires
put_one-last-requires c =
    (omega arith, omega (arith, length_more c.args.n (omega arith)))

pub put_digit-requires : goal.put_digit-requires
put_digit-requires c =
    (omega arith, omega (arith, length_more c.args.n (omega arith)))

pub returns : goal.returns
returns c =
    put_more _ (omega arith) c.put_one-last.ensures c.put_digit.ensures

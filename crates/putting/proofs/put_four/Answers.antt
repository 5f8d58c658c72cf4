-- `putting::put_four` meets its contract: the first three digits, and then the last. Assumes nothing.
use native.Mathlib.Omega.{arith}
use Rattle.text.proofs.Decimals.{length_more}
use Rattle.putting.proofs.Putting.{put_more}
use Rattle.putting.proofs.put_four.Goals as goal

pub put_three-last-requires : goal.put_three-last-requires
put_three-last-requires c =
    (omega arith, omega arith, omega (arith, length_more c.args.n (omega arith)))

pub put_digit-requires : goal.put_digit-requires
put_digit-requires c =
    (omega arith, omega (arith, length_more c.args.n (omega arith)))

pub returns : goal.returns
returns c =
    put_more _ (omega arith) c.put_three-last.ensures c.put_digit.ensures

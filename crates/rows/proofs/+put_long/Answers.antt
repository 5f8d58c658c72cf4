use native.Mathlib.Omega.{arith}
use Rattle.text.proofs.Decimals.{length_more}
use Rattle.putting.proofs.Putting.{put_more}
use Rattle.rows.proofs.+put_long.Goals as goal

pub put_long-last-requires : goal.put_long-last-requires
put_long-last-requires t c = (omega arith, omega (arith, length_more c.args.n (omega arith)))

pub put_digit-requires : goal.put_digit-requires
put_digit-requires t c = (omega arith, omega (arith, length_more c.args.n (omega arith)))

pub returns : goal.returns
returns t c = put_more _ (omega arith) c.put_long-last.ensures c.put_digit.ensures

-- `rows::put_item` meets its contract: the name, and then the number. Assumes nothing.
use native.Mathlib.Omega.{arith}
use Rattle.rows.proofs.Putting.{twenty_digits, item_put}
use Rattle.rows.proofs.put_item.Goals as goal

pub put_long-requires : goal.put_long-requires
put_long-requires c = omega (arith, twenty_digits c.args.n (omega arith))

pub returns : goal.returns
returns c =
    item_put _ c.put_bytes-number.ensures c.put_long.ensures (omega arith)

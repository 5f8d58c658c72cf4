-- `rows::put_row` meets its contract: the name with its number, and what is said of the field. Assumes nothing.
use Rattle.text.specs.Bench.{bytes}
use Rattle.rows.proofs.Rows.{lamp_row, bad_row, latch_row}
use Rattle.rows.proofs.put_row.Goals as goal

pub returns-in-Lamp : goal.returns-in-Lamp
unfolding bytes
returns-in-Lamp c =
    lamp_row _ _ c.in-Lamp.is c.put_verdict.ensures

pub returns-in-Bad : goal.returns-in-Bad
unfolding bytes
returns-in-Bad c =
    bad_row _ _ c.in-Bad.is c.put_verdict-in-Bad.ensures

pub returns-in-Latch : goal.returns-in-Latch
unfolding bytes
returns-in-Latch c =
    latch_row _ _ c.in-Latch.is c.put_item-word.ensures c.put_said.ensures

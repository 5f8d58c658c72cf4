-- `tick::result_refusal` meets its contract: its tests are made in the order of the list. Assumes nothing.
use native.Mathlib.Omega.{arith}
use Rattle.tick.proofs.Ticking.{next_short, lamps_short, results_pass}
use Rattle.tick.proofs.result_refusal.Goals as goal

pub returns-then-next-record_length : goal.returns-then-next-record_length
returns-then-next-record_length c = next_short _ _ _ (omega arith)

pub returns-then-lamps-record_length : goal.returns-then-lamps-record_length
returns-then-lamps-record_length c = lamps_short _ _ _ (omega arith) (omega arith)

pub returns : goal.returns
returns c = results_pass _ _ _ (omega arith) (omega arith)

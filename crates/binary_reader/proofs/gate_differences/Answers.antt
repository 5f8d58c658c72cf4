-- `binary_reader::gate_differences` meets its contract: one difference, and the other behind it. Assumes nothing.
use Rattle.binary_reader.proofs.Finding.{gate_none, gate_half, gate_both}
use Rattle.binary_reader.proofs.gate_differences.Goals as goal

pub returns-in_err-first : goal.returns-in_err-first
returns-in_err-first c = rw c.from_residual.ensures (gate_none _ _ c.in_err-first.ensures)

pub returns-in_err-second : goal.returns-in_err-second
returns-in_err-second c = rw c.from_residual-in_err-second.ensures (gate_half _ _ c.in_ok-first.ensures c.in_err-second.ensures)

pub returns : goal.returns
returns c = gate_both _ _ c.in_ok-first.ensures c.in_ok-second.ensures

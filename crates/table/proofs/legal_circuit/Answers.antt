-- `table::legal_circuit` meets its contract: what is not refused is legal. Assumes nothing.
use Rattle.circuit.proofs.Answering.{went_on}
use Rattle.circuit.proofs.Legality.{legal}
use Rattle.table.proofs.legal_circuit.Goals as goal

pub invariant_of-result : goal.invariant_of-result
invariant_of-result c = record { legal = legal _ _ (went_on _ c.in_ok-circuit_refusal.was c.circuit_refusal.ensures) }

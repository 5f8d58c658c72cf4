-- `defined::known` meets its contract. Assumes nothing.
use Rattle.defined.proofs.Knowing.{known_constant, known_entry}
use Rattle.defined.proofs.known.Goals as goal

pub returns-then-v-eq0 : goal.returns-then-v-eq0
returns-then-v-eq0 c = λ d e. known_constant d _ e _ c.if-v-eq0.true

pub returns-else-v-eq0 : goal.returns-else-v-eq0
returns-else-v-eq0 c = λ d e. known_entry d _ e _ c.if-v-eq0.false

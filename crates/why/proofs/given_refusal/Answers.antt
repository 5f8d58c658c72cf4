-- `why::given_refusal` meets its contract: its tests are made in the order of the list. Assumes nothing.
use mathlib.Core.Path.{sym, ◌∙◌}
use native.Mathlib.Omega.{arith}
use Rattle.asked.proofs.Refusing.{state_short, state_bad, no_lamp, given_passes}
use Rattle.why.proofs.given_refusal.Goals as goal

pub returns-then-state-record_length : goal.returns-then-state-record_length
returns-then-state-record_length c = state_short _ _ _ (omega arith)

pub returns-then-not-sound : goal.returns-then-not-sound
returns-then-not-sound c = state_bad _ _ _ (omega arith) (sym c.sound.ensures ∙ c.if-not-sound.true)

pub returns-then-lamp-board : goal.returns-then-lamp-board
returns-then-lamp-board c = no_lamp _ _ _ (omega arith) (sym c.sound.ensures ∙ c.if-not-sound.false) c.if-lamp-board.true

pub returns : goal.returns
returns c = given_passes _ _ _ (omega arith) (sym c.sound.ensures ∙ c.if-not-sound.false) c.if-lamp-board.false

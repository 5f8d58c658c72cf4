-- `tick::record_refusal` meets its contract: its tests are made in the order of the list. Assumes nothing.
use mathlib.Core.Path.{sym, ◌∙◌}
use native.Mathlib.Omega.{arith}
use Rattle.tick.proofs.Ticking.{state_short, switches_short, state_bad, switches_bad, records_pass}
use Rattle.tick.proofs.record_refusal.Goals as goal

pub returns-then-state-record_length : goal.returns-then-state-record_length
returns-then-state-record_length c = state_short _ _ _ (omega arith)

pub returns-then-switches-record_length : goal.returns-then-switches-record_length
returns-then-switches-record_length c = switches_short _ _ _ (omega arith) (omega arith)

pub returns-then-not-sound : goal.returns-then-not-sound
returns-then-not-sound c = state_bad _ _ _ (omega arith) (omega arith) (sym c.sound.ensures ∙ c.if-not-sound.true)

pub returns-then-not-sound-2 : goal.returns-then-not-sound-2
returns-then-not-sound-2 c = switches_bad _ _ _ (omega arith) (omega arith) (sym c.sound.ensures ∙ c.if-not-sound.false) (sym c.sound-2.ensures ∙ c.if-not-sound-2.true)

pub returns : goal.returns
returns c = records_pass _ _ _ (omega arith) (omega arith) (sym c.sound.ensures ∙ c.if-not-sound.false) (sym c.sound-2.ensures ∙ c.if-not-sound-2.false)

-- `text::LineKind::words` meets its contract: kind by kind. Assumes nothing.
use mathlib.Core.Logic.{inl, inr}
use Rattle.circuit.specs.Table.{width}
use Rattle.text.specs.KindsInCode.{coded}
use Rattle.text.proofs.LineKind.words.Goals as goal

pub returns-in-Input : goal.returns-in-Input
unfolding coded width
returns-in-Input c = rw c.in-Input.is

pub returns-in-Lamp : goal.returns-in-Lamp
unfolding coded width
returns-in-Lamp c = rw c.in-Lamp.is

pub returns-in-Latch : goal.returns-in-Latch
unfolding coded width
returns-in-Latch c = elim c.in-Latch.is [ inl e ↦ rw e | inr e ↦ rw e ]

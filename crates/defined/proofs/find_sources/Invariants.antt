-- `defined::find_sources` meets its contract: each operand in turn. Assumes nothing.
use mathlib.Core.Path.{◌≡◌}
use Rattle.drawn.specs.Drawing.{Drawing, leaves as leaves_of, lines}
use Rattle.defined.specs.Places.{Entered, Sourced}
use Rattle.defined.proofs.find_sources.Given as goal

abbrev pub invariant-loop-i : goal.invariant-loop-i
invariant-loop-i l = (d : Drawing) → leaves_of d ≡ l.leaves → Entered d (lines d) l.places → Sourced d l.words l.at l.i l.source-items

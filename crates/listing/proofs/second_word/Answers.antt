-- `listing::second_word` meets its contract: by the kind of line. Assumes nothing.
use mathlib.Core.Path.{◌∙◌}
use Rattle.listing.proofs.Judging.{no_second, latch_second, gate_second}
use Rattle.listing.proofs.second_word.Goals as goal

pub returns-in-Input : goal.returns-in-Input
returns-in-Input c = no_second _ c.in-Input.is

pub returns-in-Latch : goal.returns-in-Latch
returns-in-Latch c = c.reset_word.ensures ∙ latch_second _ c.in-Latch.is

pub returns-in-Gate : goal.returns-in-Gate
returns-in-Gate c = c.entry.ensures ∙ gate_second _ c.in-Gate.is

-- `listing::first_word` meets its contract: by the kind of line. Assumes nothing.
use mathlib.Core.Path.{◌∙◌}
use Rattle.listing.proofs.Judging.{no_word, lamp_first, pair_first}
use Rattle.listing.proofs.first_word.Goals as goal

pub returns-in-Input : goal.returns-in-Input
returns-in-Input c = no_word _ c.in-Input.is

pub returns-in-Lamp : goal.returns-in-Lamp
returns-in-Lamp c = c.entry.ensures ∙ lamp_first _ c.in-Lamp.is

pub returns-in-Latch : goal.returns-in-Latch
returns-in-Latch c = c.entry-in-Latch.ensures ∙ pair_first _ c.in-Latch.is

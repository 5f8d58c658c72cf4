-- `listing::keep_own` meets its contract: a lamp has no own literal. Assumes nothing.
use mathlib.Core.Path.{refl}
use native.Mathlib.Omega.{arith}
use borrow.Author.Rules.{rules}
use Rattle.listing.proofs.Judging.{no_lamp, lamp_shows, other_shows}
use Rattle.listing.proofs.Needs.{lamp_shown, other_shown}
use Rattle.listing.proofs.keep_own.Goals as goal

pub returns-in-Lamp : goal.returns-in-Lamp
returns-in-Lamp c = let e = lamp_shown c.in-Lamp.is in (rw (lamp_shows _ c.in-Lamp.is) (search rules), omega arith)

pub bounds-owns-line : goal.bounds-owns-line
bounds-owns-line c = let e = other_shown _ (no_lamp c.in-Input.is) in omega arith

pub returns-in-Input : goal.returns-in-Input
returns-in-Input c =
    let e = other_shown _ (no_lamp c.in-Input.is) in
    (rw (other_shows _ _ (no_lamp c.in-Input.is), ← c.entry.ensures) refl, omega arith)

-- `defined::enter_line` meets its contract: each test of 20 in turn. Assumes nothing.
use mathlib.Core.Path.{refl}
use Rattle.defined.proofs.Entering.{odd_refused, low_refused, high_refused, twice_refused, entered_next, line_stops, line_goes}
use Rattle.defined.proofs.enter_line.Goals as goal

pub returns-then-x-ne0 : goal.returns-then-x-ne0
returns-then-x-ne0 c =
    let pre = c.requires in
    line_stops _ (odd_refused _ _ _ pre.4 pre.3 _ refl c.if-x-ne0.true)

pub returns-then-x-lt2 : goal.returns-then-x-lt2
returns-then-x-lt2 c =
    let pre = c.requires in
    line_stops _ (low_refused _ _ _ pre.4 pre.3 _ refl c.if-x-lt2.true)

pub returns-then-x-most : goal.returns-then-x-most
returns-then-x-most c =
    let pre = c.requires in
    line_stops _ (high_refused _ _ _ pre.4 pre.3 _ refl c.if-x-most.true)

pub returns-then-places-v-ne0 : goal.returns-then-places-v-ne0
returns-then-places-v-ne0 c =
    let pre = c.requires in
    line_stops _ (twice_refused _ _ _ pre.4 pre.3 _ refl c.if-x-ne0.false c.if-places-v-ne0.true)

pub returns : goal.returns
returns c =
    let pre = c.requires in
    line_goes _ (entered_next _ _ _ pre.4 pre.3 _ refl c.if-x-ne0.false c.if-x-lt2.false c.if-x-most.false pre.2 c.if-places-v-ne0.false)

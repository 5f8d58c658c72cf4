-- `listing::list_body` meets its contract: inputs, latches, lamps, gates; the first refusal decides. Assumes nothing.
use mathlib.Core.Path.{refl}
use Rattle.circuit.proofs.Answering.{numbered}
use Rattle.text.specs.declared.LineKind.TheVariants.{Input, Latch, Lamp, Gate}
use Rattle.listing.proofs.Bodies.{listed_stop, listed_then, handed_on, room_behind, owns_room, words_room, gates_then, lamps_then, latches_then, body_listed, body_whole}
use Rattle.listing.proofs.list_body.Goals as goal

pub list_lines-requires : goal.list_lines-requires
list_lines-requires c =
    let pre = c.requires in
    record { within = pre.1; low = pre.2; owns_room = owns_room _ pre.0 Input _ pre.3; words_room = words_room _ pre.0 Input _ pre.4 }

pub returns-in_err-inputs : goal.returns-in_err-inputs
returns-in_err-inputs c =
    body_listed _ _ (handed_on _ _ c.from_residual.ensures.1 (listed_stop (c.in_err-inputs.ensures 2) (latches_then _) _ _ (numbered _)))

pub list_lines-requires-2 : goal.list_lines-requires-2
list_lines-requires-2 c =
    let pre = c.requires in
    room_behind (c.in_ok-inputs.ensures 2) refl _ _ pre.2 (owns_room _ pre.0 Latch _ pre.3) (words_room _ pre.0 Latch _ pre.4)

pub returns-in_err-latches : goal.returns-in_err-latches
returns-in_err-latches c =
    let latches = listed_then (c.in_ok-inputs.ensures 2) refl (c.in_err-latches.ensures _) in
    body_listed _ _ (handed_on _ _ c.from_residual-in_err-latches.ensures.1 (listed_stop latches (lamps_then _) _ _ (numbered _)))

pub list_lines-requires-3 : goal.list_lines-requires-3
list_lines-requires-3 c =
    let pre = c.requires in
    let latches = listed_then (c.in_ok-inputs.ensures 2) refl (c.in_ok-latches.ensures 0) in
    rw c.literals.ensures (room_behind latches refl _ _ pre.2 (owns_room _ pre.0 Lamp _ pre.3) (words_room _ pre.0 Lamp _ pre.4))

pub returns-in_err-lamps : goal.returns-in_err-lamps
returns-in_err-lamps c =
    let latches = listed_then (c.in_ok-inputs.ensures 2) refl (c.in_ok-latches.ensures _) in
    let lamps = listed_then latches refl (rw c.literals.ensures at (c.in_err-lamps.ensures 0)) in
    let counts = c.args.counts in
    body_listed counts _ (handed_on _ _ c.from_residual-in_err-lamps.ensures.1 (listed_stop lamps (gates_then counts) _ _ (numbered _)))

pub list_lines-requires-4 : goal.list_lines-requires-4
list_lines-requires-4 c =
    let pre = c.requires in
    let latches = listed_then (c.in_ok-inputs.ensures 2) refl (c.in_ok-latches.ensures 0) in
    let lamps = listed_then latches refl (rw c.literals.ensures at (c.in_ok-lamps.ensures 0)) in
    room_behind lamps refl _ _ pre.2 (owns_room _ pre.0 Gate _ pre.3) (words_room _ pre.0 Gate _ pre.4)

pub returns : goal.returns
returns c =
    let latches = listed_then (c.in_ok-inputs.ensures 2) refl (c.in_ok-latches.ensures _) in
    let lamps = listed_then latches refl (rw c.literals.ensures at (c.in_ok-lamps.ensures 0)) in
    body_whole _ _ (listed_then lamps refl (c.list_lines-4.ensures _))

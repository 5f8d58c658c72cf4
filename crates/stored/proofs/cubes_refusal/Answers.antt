-- `stored::cubes_refusal` meets its contract: its tests are made in the order of the list. Assumes nothing.
use mathlib.Core.Path.{sym, ◌∙◌}
use native.Mathlib.Omega.{arith}
use Rattle.cubes.proofs.StoredCube.{some_bytes}
use Rattle.cubes.proofs.Given.{cubes_short, cubes_bad, cubes_pass, room_is}
use Rattle.stored.proofs.cubes_refusal.Goals as goal

pub nonzero_div-cubes : goal.nonzero_div-cubes
nonzero_div-cubes c = omega (arith, c.cube_bytes.ensures, some_bytes c.args.counts.latches)

pub returns-then-n-cubes : goal.returns-then-n-cubes
returns-then-n-cubes c =
    let room = room_is c.args.counts c.args.cubes.now c.cube_bytes.ensures in
    cubes_short _ _ _ (omega (arith, room))

pub returns-then-not-cubes_sound : goal.returns-then-not-cubes_sound
returns-then-not-cubes_sound c =
    let room = room_is c.args.counts c.args.cubes.now c.cube_bytes.ensures in
    cubes_bad _ _ _ (omega (arith, room)) (sym c.cubes_sound.ensures ∙ c.if-not-cubes_sound.true)

pub returns : goal.returns
returns c =
    let room = room_is c.args.counts c.args.cubes.now c.cube_bytes.ensures in
    cubes_pass _ _ _ (omega (arith, room)) (sym c.cubes_sound.ensures ∙ c.if-not-cubes_sound.false)

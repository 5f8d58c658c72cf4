use Rattle.three.proofs.Loops.{tried_next, tried_fails, tried_all}
use Rattle.stored.proofs.Judged.{judged_cube}
use Rattle.stored.proofs.cubes_sound.Goals as goal

pub returns-then-not-cube_sound : goal.returns-then-not-cube_sound
returns-then-not-cube_sound c =
    tried_fails _ _ c.loop-k-test.true (judged_cube _ _ _ c.requires.1 _ c.cube_bytes-len.ensures _ c.cube_sound.ensures) c.if-not-cube_sound.true

pub loop-k-preserved : goal.loop-k-preserved
loop-k-preserved c =
    tried_next _ _ c.loop-k.invariant c.loop-k-test.true (judged_cube _ _ _ c.requires.1 _ c.cube_bytes-len.ensures _ c.cube_sound.ensures) c.if-not-cube_sound.false

pub returns : goal.returns
returns c = tried_all _ _ c.loop-k.invariant c.loop-k-test.false

-- `stored::cubes_sound` meets its contract: each cube is tried in turn. Assumes nothing.
use Rattle.three.proofs.Loops.{Tried}
use Rattle.cubes.specs.Buffer.{sound_in}
use Rattle.stored.proofs.cubes_sound.Given as goal

abbrev pub invariant-loop-k : goal.invariant-loop-k
invariant-loop-k l = Tried l.n (sound_in l.latches l.cubes) l.k

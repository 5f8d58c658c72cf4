-- The bound w + L of the run's promise is reached: with room for one cube less a ring of four latches does not close, w being 1 to 7. Assumes nothing.
use mathlib.Core.Path.{◌≡◌, refl}
use mathlib.Core.Bool.{true, not}
use mathlib.Core.List.{zip_with}
use Prim.Native.Nat.{suc, ◌+◌}
use Rattle.three.specs.Lists.{tabulate, every, adjust}
use Rattle.three.specs.Value.{code, both, inverse, ternary}
use Rattle.three.specs.Cube.{alike, allows, subsumes, blank}
use Rattle.circuit.specs.Circuit.{signed, value, pass, settle, readings}
use Rattle.cubes.specs.Run.{hold, differing, due, switches_unknown, next_cube, some_low, blocked, start_field, start, reached, widened, store, stage, cube_at, search, back, run, stepped, resets}
use Rattle.witness.specs.Ring.{following, ring}
use Rattle.cubes.specs.OutcomesInCode.{has_stopped}

pub not_within : every 7 (λ k. not (has_stopped (run (ring 4) (suc k) (k + 4)))) ≡ true
unfolding every tabulate adjust code both inverse ternary alike allows subsumes blank signed value pass settle readings hold differing zip_with due switches_unknown next_cube some_low blocked start_field resets start reached widened store stage cube_at search stepped back run has_stopped following ring
not_within = refl

-- What the two calls for beginners' boards promise (specification, 4.19 and 5.15). Assumes nothing.
use Rattle.std.specs.Prelude.{◌≡◌, List, ℕ, ◌^◌, ◌<◌, ◌≤◌}
use Rattle.circuit.specs.declared.Counts.{Counts}
use Rattle.text.specs.Calls.{Reading}
use Rattle.cubes.specs.declared.ChainAnswer.{ChainAnswer}
use Rattle.cubes.specs.Run.{stops}
use Rattle.cubes.specs.Chain.{outcome_in, Chained}
use Rattle.beginners.specs.Calls.{BoardGiven, refused_by, unwidened}

-- a text accepted here is accepted by the call read, with the same counts and table
pub record AlsoRead (text table : List ℕ) (number : ℕ) (counts : Counts) (table' : List ℕ) : Type 0 where
  pub reads : number ≡ 0 → Reading text table number counts table'

-- a run that is not refused has closed, back to one of its cubes, with at most 3 to the power L cubes, and is the call chain's with w = 0
pub record AlwaysCloses (g : BoardGiven) (r : ChainAnswer) (cubes : List ℕ) : Type 0 where
  pub closes : refused_by g ≡ 0 → outcome_in (unwidened g) ≡ stops r.cubes r.back
  pub never_ends : refused_by g ≡ 0 → r.back < r.cubes
  pub few : refused_by g ≡ 0 → r.cubes ≤ 3 ^ g.counts.latches
  pub chains : refused_by g ≡ 0 → Chained (unwidened g) r cubes

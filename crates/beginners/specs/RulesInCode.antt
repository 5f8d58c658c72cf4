-- A beginners' board as the code sees it; nothing here has to be believed. Assumes nothing.
use Rattle.std.specs.Prelude.{◌≡◌, ◌≤◌}
use Rattle.circuit.specs.declared.Counts.{Counts}

-- counts within the beginners' ceilings, without bad states and constraints
pub record Small (c : Counts) : Type 0 where
  pub inputs : c.inputs ≤ 4
  pub latches : c.latches ≤ 8
  pub lamps : c.lamps ≤ 8
  pub gates : c.gates ≤ 32
  pub bads : c.bads ≡ 0
  pub constraints : c.constraints ≡ 0

-- What an accepted cover promises of every execution (specification, 5.11), over the bytes that were given and those that the call leaves. Assumes nothing.
use Rattle.std.specs.Prelude.{◌≡◌, Bool, false, List, ℕ, ◌+◌, ◌<◌, get_or}
use Rattle.three.specs.Value.{unknown, known}
use Rattle.three.specs.Cube.{◌∋◌}
use Rattle.three.specs.Record.{unpack}
use Rattle.circuit.specs.Table.{verdicts}
use Rattle.cubes.specs.Execution.{Execution, state_after, lamps_after, bads_after, Lawful}
use Rattle.sent.specs.declared.CoverAnswer.{CoverAnswer}
use Rattle.sent.specs.Call.{SentGiven, circuit_in, cubes_in}

module _ (g : SentGiven) where
  -- the state lies inside one of the n cubes
  pub record Within (state : List Bool) : Type 0 where
    pub k : ℕ
    pub below : k < g.n
    pub holds : cubes_in g k ∋ state

  -- One execution, at the ticks at which it is legal
  pub record KeptLegal (verdict : List ℕ) (e : Execution (circuit_in g)) : Type 0 where
    -- it never leaves the cubes
    pub stays : (t : ℕ) → Lawful e t → Within (state_after e t)
    -- "never" (false) is dark at each of these ticks, "always" (true) lit; and so of bad states
    pub judged : (i : ℕ) (v : Bool) → get_or (unpack g.counts.lamps verdict) i unknown ≡ known v → (t : ℕ) → Lawful e t → get_or (lamps_after e t) i false ≡ v
    pub bad_judged : (i : ℕ) (v : Bool) → get_or (unpack (verdicts g.counts) verdict) (g.counts.lamps + i) unknown ≡ known v → (t : ℕ) → Lawful e t → get_or (bads_after e t) i false ≡ v

  -- One execution, at every tick
  pub record Kept (verdict : List ℕ) (e : Execution (circuit_in g)) : Type 0 where
    pub stays : (t : ℕ) → Within (state_after e t)
    pub judged : (i : ℕ) (v : Bool) → get_or (unpack g.counts.lamps verdict) i unknown ≡ known v → (t : ℕ) → get_or (lamps_after e t) i false ≡ v
    pub bad_judged : (i : ℕ) (v : Bool) → get_or (unpack (verdicts g.counts) verdict) (g.counts.lamps + i) unknown ≡ known v → (t : ℕ) → get_or (bads_after e t) i false ≡ v

  -- an accepted cover keeps every legal execution, under any switch sequence
  pub record Keeps (r : CoverAnswer) (verdict : List ℕ) : Type 0 where
    pub covers_legal : r.number ≡ 0 → (e : Execution (circuit_in g)) → KeptLegal verdict e
    -- without constraints every execution, at every tick
    pub covers : r.number ≡ 0 → g.counts.constraints ≡ 0 → (e : Execution (circuit_in g)) → Kept verdict e

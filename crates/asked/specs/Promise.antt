-- What an answer of `why` promises (specification, 5.13), over the bytes that were given and those that the call leaves. Assumes nothing.
use Rattle.std.specs.Prelude.{◌≡◌, Bool, true, false, List, ℕ, length, get_or}
use Rattle.three.specs.Value.{known, boolean}
use Rattle.three.specs.Cube.{Cube, subsumes, ◌∋◌}
use Rattle.three.specs.Record.{unpack}
use Rattle.circuit.specs.Circuit.{Circuit, lamps}
use Rattle.circuit.specs.Table.{circuit_of}
use Rattle.asked.specs.Call.{lamp_in, WhyGiven}

module _ (g : WhyGiven) where
  unfoldable pub circuit_in : Circuit
  circuit_in = circuit_of g.counts g.table

  -- a record's state: the given one, and the answer
  unfoldable pub state_in : List ℕ → Cube
  state_in bytes = unpack g.counts.latches bytes

  pub record Enough (why : List ℕ) : Type 0 where
    -- from the answer alone the lamp has the same value
    pub same : lamp_in circuit_in (state_in why) g.lamp ≡ lamp_in circuit_in (state_in g.state) g.lamp
    -- so it has that value in every state that the answer allows, whatever the switches are
    pub forced : (b : Bool) → lamp_in circuit_in (state_in g.state) g.lamp ≡ known b
        → (switches state : List Bool) → length switches ≡ g.counts.inputs → state_in why ∋ state → get_or (lamps boolean circuit_in switches state) g.lamp false ≡ b
    -- the answer only forgets: every field that it knows is known alike in the given state
    pub forgets : subsumes (state_in why) (state_in g.state) ≡ true

  -- an accepted call's answer is enough
  pub record Suffices (number : ℕ) (why : List ℕ) : Type 0 where
    pub explains : number ≡ 0 → Enough why

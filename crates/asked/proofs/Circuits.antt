-- The gates and the lamps of a legal circuit, as its words have them. Assumes nothing.
use mathlib.Core.Path.{◌≡◌, ap, ◌∙◌}
use mathlib.Core.List.{List}
use Prim.Native.Nat.{ℕ, ◌+◌, ◌*◌, ◌<◌, ◌≤◌}
use native.Mathlib.Omega.{arith}
use lib.ListN.{length, get_or, get_or-map}
use Rattle.three.specs.Value.{Three, unknown, ternary}
use Rattle.three.specs.Cube.{Cube}
use Rattle.three.proofs.Lists.{length_tabulate, get_or_tabulate, get_or_any}
use Rattle.circuit.specs.declared.Counts.{Counts}
use Rattle.circuit.specs.Circuit.{value, settle, readings}
use Rattle.circuit.specs.Table.{top, literals_at, gates_at, circuit_of}
use Rattle.circuit.specs.RulesInCode.{Legal}
use Rattle.circuit.proofs.Fixed.{Falling, falling}
use Rattle.cubes.specs.Run.{switches_unknown, lamps_in}
use Rattle.cubes.proofs.Reading.{lamps_sized}
use Rattle.asked.specs.Follow.{gate_at, first_gate, values_in}
use Rattle.asked.specs.AskedInCode.{gate_in}
use Rattle.asked.specs.Call.{lamp_in, lamp_literal}

module _ (c : Counts) (words : List ℕ) where
  pub latch_count : length (circuit_of c words).latches ≡ c.latches
  unfolding circuit_of
  latch_count = length_tabulate c.latches _

  pub gate_count : length (circuit_of c words).gates ≡ c.gates
  unfolding circuit_of
  gate_count = length_tabulate c.gates _

  pub first_gate_lem : first_gate (circuit_of c words) ≡ 1 + c.inputs + c.latches
  unfolding circuit_of
  first_gate_lem = ap (λ n. 1 + c.inputs + n) (length_tabulate c.latches _)

  pub gate_words_lem : (i : ℕ) → i < c.gates → gate_at (circuit_of c words) i ≡ gate_in words (gates_at c) i
  unfolding gate_at circuit_of
  gate_words_lem i h = get_or_tabulate c.gates _ i _ h

  module _ (legal : Legal c words) where
    pub legal_falls : (i : ℕ) → i < c.gates → ((gate_at (circuit_of c words) i).left < 2 * (1 + c.inputs + c.latches + i)) × ((gate_at (circuit_of c words) i).right < 2 * (1 + c.inputs + c.latches + i))
    legal_falls i h = rw (gate_words_lem i h) (legal.left i h, legal.right i h)

    pub legal_falling : Falling (first_gate (circuit_of c words)) (circuit_of c words).gates
    unfolding circuit_of
    legal_falling = rw (length_tabulate) (falling (1 + c.inputs + c.latches) c.gates _ (λ i h. (legal.left i h, legal.right i h)))

  -- ---- a lamp

  module _ (lamp : ℕ) (h : lamp < c.lamps) where
    lamp_count : length (circuit_of c words).lamps ≡ c.lamps
    unfolding circuit_of
    lamp_count = length_tabulate c.lamps _

    pub literal_word : lamp_literal (circuit_of c words) lamp ≡ get_or words (literals_at c + lamp) 0
    unfolding lamp_literal circuit_of
    literal_word = get_or_tabulate c.lamps _ lamp 0 h

    pub literal_within : Legal c words → lamp_literal (circuit_of c words) lamp ≤ top c
    literal_within legal = rw literal_word (legal.literal lamp (omega arith))

    -- its value is its literal's
    pub lamp_read : (state : Cube) → lamp_in (circuit_of c words) state lamp ≡ value ternary (values_in (circuit_of c words) state) (lamp_literal (circuit_of c words) lamp)
    unfolding lamp_in lamp_literal values_in lamps_in readings
    lamp_read state =
        let read : ℕ → Three = value ternary (settle ternary (circuit_of c words) (switches_unknown (circuit_of c words)) state) in
        get_or_any (lamps_in (circuit_of c words) state) lamp unknown (read 0) (omega (arith, lamps_sized (circuit_of c words) state, lamp_count)) ∙ get_or-map read (circuit_of c words).lamps lamp 0

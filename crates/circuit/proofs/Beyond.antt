-- Words beyond a circuit's table are ignored (specification, 3.6). Assumes nothing.
use mathlib.Core.Path.{◌≡◌, ap, ap₂, ◌∙◌}
use mathlib.Core.List.{List}
use Prim.Native.Nat.{ℕ, ◌+◌, ◌*◌, ◌<◌}
use native.Mathlib.Omega.{arith}
use lib.ListN.{get_or, take}
use lib.Seq.{get_or-take}
use Rattle.three.proofs.Lists.{tabulate_ext}
use Rattle.circuit.specs.declared.Counts.{Counts}
use Rattle.circuit.specs.Circuit.{Circuit, Latch, Gate}
use Rattle.circuit.specs.Table.{table_length, circuit_of, literals_at, bads_at, constraints_at, gates_at}

abbrev latch : ℕ → ℕ → Latch
latch a b = record { next = a; reset = b }

abbrev gate : ℕ → ℕ → Gate
gate a b = record { left = a; right = b }

abbrev circuit : ℕ → List Latch → List Gate → List ℕ → List ℕ → List ℕ → Circuit
circuit inputs ls gs os bs cs = record { inputs = inputs; latches = ls; lamps = os; gates = gs; bads = bs; constraints = cs }

module _ (c : Counts) (words : List ℕ) where
  abbrev front : List ℕ
  front = take (table_length c) words

  word : (i : ℕ) → i < table_length c → get_or front i 0 ≡ get_or words i 0
  word i h = get_or-take (table_length c) words i 0 h

  -- the first words make the same circuit
  pub circuit_front : circuit_of c front ≡ circuit_of c words
  unfolding circuit_of
  circuit_front =
      let latches = tabulate_ext c.latches _ _ (λ i h. ap₂ latch (word (2 * i) (omega arith)) (word (2 * i + 1) (omega arith))) in
      let at : ℕ = gates_at c in
      let gates = tabulate_ext c.gates _ _ (λ i h. ap₂ gate (word (at + 2 * i) (omega arith)) (word (at + 2 * i + 1) (omega arith))) in
      let lamps = tabulate_ext c.lamps _ _ (λ i h. word (literals_at c + i) (omega arith)) in
      let bads = tabulate_ext c.bads _ _ (λ i h. word (bads_at c + i) (omega arith)) in
      let constraints = tabulate_ext c.constraints _ _ (λ i h. word (constraints_at c + i) (omega arith)) in
      let old : Circuit = circuit_of c front in
      let new : Circuit = circuit_of c words in
      ap₂ (λ (ls : List Latch) (gs : List Gate). circuit c.inputs ls gs old.lamps old.bads old.constraints) latches gates
      ∙ ap₂ (λ (os bs : List ℕ). circuit c.inputs new.latches new.gates os bs old.constraints) lamps bads
      ∙ ap (λ (cs : List ℕ). circuit c.inputs new.latches new.gates new.lamps new.bads cs) constraints

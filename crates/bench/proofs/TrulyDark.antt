-- K's lamp is "open though truly dark" (specification, 9): the table has its verdict, and here it is dark at every tick,
-- whatever the switch does. Assumes nothing.
use mathlib.Core.Path.{◌≡◌, refl, ap, ap₂, ◌∙◌}
use mathlib.Core.Bool.{Bool, false}
use mathlib.Core.List.{List, [], ◌∷◌}
use Prim.Native.Nat.{ℕ, zero, suc, ◌≤◌}
use native.Mathlib.Omega.{arith}
use lib.ListN.{length}
use Rattle.three.specs.Lists.{tabulate, Each, empty}
use Rattle.three.specs.Value.{boolean}
use Rattle.circuit.specs.declared.Counts.{Counts}
use Rattle.circuit.specs.Circuit.{Circuit, signed, value, pass, settle, lamps, readings}
use Rattle.circuit.specs.Table.{plain_counts, circuit_of}
use Rattle.text.specs.Outcome.{accepted}
use Rattle.text.specs.Text.{Content, read_text}
use Rattle.text.specs.Calls.{Reading}
use Rattle.text.specs.Bench.{bytes, outcome_of}
use Rattle.text.proofs.Answers.{read_fits, reading_accepted}
use Rattle.text.proofs.Determined.{reading_determined}
use Rattle.cubes.specs.Run.{resets}
use Rattle.cubes.specs.Execution.{Allows, Execution, settings, state_after, read_after, lamps_after}
use Rattle.witness.proofs.Cases.{circuit_read}
use Rattle.witness.proofs.Switching.{off_with_inverse}
use Rattle.bench.specs.Bench.{K·}

-- one switch, one gate of the switch and its inverse, and the gate as lamp
abbrev K-content : Content
K-content = record { counts = plain_counts 1 0 1 1; words = 4 ∷ 2 ∷ 3 ∷ [] }

K-read : read_text (bytes K·) ≡ accepted K-content
unfolding outcome_of bytes
K-read = refl

abbrev K-circuit : Circuit
K-circuit = circuit_of K-content.counts K-content.words

K-dark : (e : Execution K-circuit) (t : ℕ) → lamps_after e t ≡ false ∷ []
unfolding read_after state_after settings resets readings settle pass value signed boolean circuit_of tabulate
K-dark e zero = dark e.first e.allowed
  where
    dark : (first : List Bool) → Each Allows [] first → lamps boolean K-circuit (settings e 0) first ≡ false ∷ []
    dark [] empty = ap (λ (b : Bool). b ∷ []) (off_with_inverse (e.switches zero 0))
    dark (_ ∷ _) x = elim x [ ]
K-dark e (suc t) = ap (λ (b : Bool). b ∷ []) (off_with_inverse (e.switches (suc t) 0))

pub truly_dark : (table : List ℕ) → 16 ≤ length table → {number : ℕ} {counts : Counts} {table' : List ℕ} → Reading (bytes K·) table number counts table'
    → (e : Execution (circuit_of counts table')) (t : ℕ) → lamps_after e t ≡ false ∷ []
truly_dark table room {number} {counts} {table'} reading =
    let is = reading_determined reading (reading_accepted table (read_fits table K-read (omega arith))) in
    let same : circuit_of counts table' ≡ K-circuit = ap₂ circuit_of is.1 is.2 ∙ circuit_read (bytes K·) K-read table (omega arith) in
    rw same K-dark

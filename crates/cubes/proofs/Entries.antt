-- The record of verdicts that a call leaves: lamp i is its field i, bad state i its field O + i, and what is known there is so at every legal tick. Assumes nothing.
use mathlib.Core.Path.{◌≡◌, sym, ap, ap₂, ◌∙◌}
use mathlib.Core.Bool.{Bool, false}
use mathlib.Core.List.{List}
use Prim.Native.Nat.{ℕ, ◌+◌, ◌<◌}
use lib.ListN.{length, get_or}
use Rattle.three.specs.Value.{unknown, known}
use Rattle.three.specs.Cube.{Cube}
use Rattle.three.specs.Record.{unpack}
use Rattle.circuit.specs.declared.Counts.{Counts}
use Rattle.circuit.specs.Circuit.{Circuit}
use Rattle.circuit.specs.Table.{verdicts, circuit_of}
use Rattle.cubes.specs.Execution.{Execution, lamps_after, bads_after, watched_after, Lawful}
use Rattle.cubes.proofs.Buffered.{literals_counted}
use Rattle.cubes.proofs.Watching.{lamp_watched, bad_watched, fewer_fields, known_below}

module _ (c : Counts) (table : List ℕ) where
  abbrev circuit : Circuit
  circuit = circuit_of c table

  pub lamp_below : {i : ℕ} → i < c.lamps → i < length circuit.lamps
  lamp_below h = rw (literals_counted c table) h

  module _ (verdict : List ℕ) (fields : Cube) (left : unpack (verdicts c) verdict ≡ fields) where
    pub lamp_entry : (i : ℕ) → i < c.lamps → get_or (unpack c.lamps verdict) i unknown ≡ get_or fields i unknown
    lamp_entry i h = fewer_fields c.lamps c.bads verdict i h ∙ ap (λ (v : Cube). get_or v i unknown) left

    pub bad_entry : (i : ℕ) → get_or (unpack (verdicts c) verdict) (c.lamps + i) unknown ≡ get_or fields (length circuit.lamps + i) unknown
    bad_entry i = ap₂ (λ (v : Cube) (o : ℕ). get_or v (o + i) unknown) left (sym (literals_counted c table))

    module _ (e : Execution circuit) (holds : (i : ℕ) (v : Bool) → get_or fields i unknown ≡ known v → (t : ℕ) → Lawful e t → get_or (watched_after e t) i false ≡ v) where
      pub lamp_judged : (i : ℕ) (v : Bool) → get_or (unpack c.lamps verdict) i unknown ≡ known v → (t : ℕ) → Lawful e t → get_or (lamps_after e t) i false ≡ v
      lamp_judged i v is t legal =
          let h = known_below c.lamps verdict i v is in
          sym (lamp_watched e t i (lamp_below h)) ∙ holds i v (sym (lamp_entry i h) ∙ is) t legal

      pub bad_judged : (i : ℕ) (v : Bool) → get_or (unpack (verdicts c) verdict) (c.lamps + i) unknown ≡ known v → (t : ℕ) → Lawful e t → get_or (bads_after e t) i false ≡ v
      bad_judged i v is t legal = sym (bad_watched e t i) ∙ holds _ v (sym (bad_entry i) ∙ is) t legal

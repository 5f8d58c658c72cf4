-- The walk through the cubes: the start, and each next state, is sought among them as the definition says. Assumes nothing.
use mathlib.Core.Path.{◌≡◌, ap, ◌∙◌}
use mathlib.Core.Bool.{Bool, true, false}
use mathlib.Core.List.{List}
use Rattle.std.specs.Prelude.{Option, is_some}
use Prim.Native.Nat.{ℕ, ◌*◌, ◌<◌, ◌≤◌}
use native.Mathlib.Omega.{arith}
use lib.ListN.{length, get_or, replicate, length-replicate}
use Rattle.three.specs.Lists.{over, first}
use Rattle.three.specs.Cube.{Cube}
use Rattle.three.specs.Record.{pack, unpack}
use Rattle.three.specs.RecordInCode.{IsRecord}
use Rattle.three.proofs.Pack.{unpack_over}
use Rattle.three.proofs.Soundness.{record_over}
use Rattle.circuit.specs.declared.Counts.{Counts}
use Rattle.circuit.specs.Circuit.{Circuit}
use Rattle.circuit.specs.Table.{circuit_of}
use Rattle.circuit.specs.RulesInCode.{Legal}
use Rattle.pass.specs.ValuesInCode.{values_of, literal_values}
use Rattle.cubes.specs.Run.{next_cube, blocked, start}
use Rattle.cubes.specs.Buffer.{cube_bytes, cube_in}
use Rattle.cubes.specs.BufferInCode.{longest_cube, Cubes}
use Rattle.cubes.specs.Given.{covered}
use Rattle.cubes.proofs.StoredCube.{few_bytes}
use Rattle.cubes.proofs.Held.{Bytes, padded_byte}
use Rattle.cubes.proofs.Buffered.{next_counted}
use Rattle.stored.specs.CubesInCode.{start_fields, raised_bytes, covers_from, FoundFirst, Settled}
use Rattle.stored.proofs.Starting.{start_fields_lem, start_sized}
use Rattle.stored.proofs.Reaching.{next_packed, next_bytes}
use Rattle.stored.proofs.Inside.{found_inside, found_nowhere}
use Rattle.sent.specs.SentInCode.{Sendable}

pub sendable : (c : Counts) (words : List ℕ) (len n : ℕ) (cubes : List ℕ) → Legal c words → Cubes c.latches len n cubes → Sendable c words len n cubes
sendable c words len n cubes legal are = record { legal = legal; stand = are }

-- the same by the length as the code has it
pub of_length : (c : Counts) (words : List ℕ) (n : ℕ) (cubes : List ℕ) → Legal c words → Cubes c.latches (cube_bytes c.latches) n cubes → {len : ℕ} → len ≡ cube_bytes c.latches → Sendable c words len n cubes
of_length c words n cubes legal are e = rw e (sendable c words (cube_bytes c.latches) n cubes legal are)

module _ (c : Counts) (words : List ℕ) (len n : ℕ) (cubes : List ℕ) (s : Sendable c words len n cubes) where
  pub len_few : len ≤ longest_cube
  len_few = omega (arith, s.stand.size, few_bytes s.legal.bounded.latches)

  abbrev circuit : Circuit
  circuit = circuit_of c words

  start_counted : length (start circuit) ≡ c.latches
  start_counted = ap length (start_fields_lem c words) ∙ start_sized words c.latches

  start_bytes : (b : List ℕ) → b ≡ over (pack (start_fields words c.latches)) (replicate longest_cube 0) → Bytes len (λ i. get_or b i 0) (start circuit)
  start_bytes b e i h = rw (start_fields_lem c words) (ap (λ (l : List ℕ). get_or l i 0) e ∙ padded_byte (start_fields words c.latches) i longest_cube)

  module _ (small : (i : ℕ) → get_or cubes i 0 < 256) (b : List ℕ) (o : Option ℕ) (sought : FoundFirst n (first n (λ k. covers_from len cubes (raised_bytes len 3 b) (k * len))) o) where
    abbrev is_covered : Cube → Bool
    is_covered = covered circuit (cube_in c.latches cubes) n

    -- the start; where it is found in no cube a constraint decides
    module _ (e : b ≡ over (pack (start_fields words c.latches)) (replicate longest_cube 0)) where
      pub start_found : is_some o ≡ true → true ≡ is_covered (start circuit)
      start_found = found_inside c.latches len n cubes s.stand small b (start circuit) start_counted (start_bytes b e) circuit o sought

      pub start_missed : is_some o ≡ false → {r : Bool} → r ≡ blocked circuit (start circuit) → r ≡ is_covered (start circuit)
      start_missed = found_nowhere c.latches len n cubes s.stand small b (start circuit) start_counted (start_bytes b e) circuit o sought

    -- the next state of a cube, likewise
    module _ (state : Cube) (sized : length state ≡ c.latches) (t : List ℕ) (settled : Settled c words state t) (e : b ≡ over (pack (literal_values (values_of t) words 0 2 c.latches)) (replicate longest_cube 0)) where
      pub next_found : is_some o ≡ true → true ≡ is_covered (next_cube circuit state)
      next_found = found_inside c.latches len n cubes s.stand small b (next_cube circuit state) (next_counted c words state) (next_bytes c words s.legal state sized t settled b e len) circuit o sought

      pub next_missed : is_some o ≡ false → {r : Bool} → r ≡ blocked circuit (unpack c.latches b) → r ≡ is_covered (next_cube circuit state)
      next_missed h is =
          let read : unpack c.latches b ≡ next_cube circuit state = rw (next_packed c words s.legal state sized t settled _ b e) (unpack_over c.latches _ _ (next_counted c words state)) in
          found_nowhere c.latches len n cubes s.stand small b (next_cube circuit state) (next_counted c words state) (next_bytes c words s.legal state sized t settled b e len) circuit o sought h (is ∙ ap (blocked circuit) read)

  pub next_record : (state : Cube) → length state ≡ c.latches → (t : List ℕ) → Settled c words state t → (b : List ℕ) → b ≡ over (pack (literal_values (values_of t) words 0 2 c.latches)) (replicate longest_cube 0) → IsRecord c.latches b
  next_record state sized t settled b e =
      rw (next_packed c words s.legal state sized t settled _ b e) (record_over c.latches _ (replicate longest_cube 0) (next_counted c words state) (rw length-replicate (omega (arith, s.legal.bounded.latches))))

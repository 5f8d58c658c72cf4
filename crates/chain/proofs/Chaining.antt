-- The chain, cube by cube: what the buffer and the progress hold after each, and how the run goes on from there. Assumes nothing.
use mathlib.Core.Path.{◌≡◌, refl, sym, ap, ◌∙◌}
use mathlib.Core.Bool.{false}
use mathlib.Core.List.{List, append-nil, flatten}
use Prim.Native.Nat.{ℕ, suc, ◌+◌, ◌*◌, ◌<◌, ◌≤◌}
use native.Mathlib.Nat.{one-mul}
use native.Mathlib.Omega.{arith}
use lib.ListN.{length, get_or, replicate, length-append, length-drop, length-replicate, get_or-replicate}
use lib.Seq.{paste}
use Rattle.three.specs.Lists.{tabulate, over}
use Rattle.three.specs.Value.{code, known}
use Rattle.three.specs.Cube.{Cube}
use Rattle.three.specs.Record.{bytes_for, byte_at, pack, unpack}
use Rattle.three.specs.RecordInCode.{IsRecord}
use Rattle.three.proofs.Lists.{get_or_tabulate}
use Rattle.three.proofs.Pack.{length_pack}
use Rattle.circuit.specs.declared.Counts.{Counts}
use Rattle.circuit.specs.Circuit.{Circuit}
use Rattle.circuit.specs.Table.{circuit_of}
use Rattle.cubes.specs.Run.{next_cube, blocked, start, Stage, reached, stage, cube_at, full, run}
use Rattle.cubes.specs.Buffer.{cube_bytes, pack_cubes, pack_cube, marked}
use Rattle.cubes.specs.BufferInCode.{longest_cube}
use Rattle.cubes.proofs.Wider.{reached_sized}
use Rattle.cubes.proofs.Growing.{held_sized}
use Rattle.cubes.proofs.Merging.{length_over}
use Rattle.cubes.proofs.Steps.{run_begins}
use Rattle.cubes.proofs.Buffered.{latches_counted, cubes_sized}
use Rattle.cubes.proofs.StoredCube.{few_bytes, latch_bytes}
use Rattle.cubes.proofs.Raised.{Marked}
use Rattle.cubes.proofs.Held.{Bytes, HeldBytes, packed_byte, padded_byte, bytes_read, bytes_record, bytes_kept, none_held}
use Rattle.cubes.proofs.Storing.{records_sized, stored_bytes}
use Rattle.stored.specs.CubesInCode.{start_fields, kept_bytes, SwitchesX}
use Rattle.stored.proofs.Raising.{front_byte}
use Rattle.stored.proofs.Keeping.{length_kept}
use Rattle.stored.proofs.Starting.{start_fields_lem, start_sized}

module _ (c : Counts) (words : List ℕ) (w : ℕ) (buffer : List ℕ) where
  abbrev circuit : Circuit
  circuit = circuit_of c words

  abbrev size : ℕ
  size = c.latches

  abbrev len : ℕ
  len = cube_bytes c.latches

  -- so many cubes are stored, none of them stops the run, these latches are held, and these are the latches of the last cube
  pub record Going (count : ℕ) (held state cubes values : List ℕ) : Type 0 where
    pub last : ℕ
    pub counts : count ≡ suc last
    pub fits : count * len ≤ length buffer
    pub open_yet : run circuit w last ≡ full
    pub stored : cubes ≡ over (pack_cubes (marked w) (cube_at circuit w) count) buffer
    pub holding : HeldBytes len held (stage circuit w last).held
    pub broad : length held ≡ longest_cube
    pub wide : length state ≡ longest_cube
    pub lasting : Bytes len (λ i. get_or state i 0) (cube_at circuit w last)
    pub ready : SwitchesX c values

  pub flags_sized : (k : ℕ) → length (stage circuit w k).held ≡ size
  flags_sized k = held_sized circuit w k ∙ latches_counted c words

  pub going_first : blocked circuit (start circuit) ≡ false → (state cubes values : List ℕ) → size ≤ 512 → len ≤ length buffer → state ≡ over (pack (start_fields words c.latches)) (replicate longest_cube 0)
      → cubes ≡ over (pack_cube false (start_fields words c.latches)) buffer → SwitchesX c values → Going 1 (replicate longest_cube 0) state cubes values
  unfolding stage cube_at
  going_first free state cubes values few room es e r = record {
    last = 0;
    counts = refl;
    fits = omega (arith, one-mul len);
    open_yet = run_begins circuit w free;
    stored = e ∙ ap (λ (v : Cube). over (pack_cube false v) buffer) (sym (start_fields_lem c words)) ∙ ap (λ (l : List ℕ). over l buffer) (sym first_record);
    holding = λ i h. get_or-replicate {A = ℕ} longest_cube i 0 0 (omega (arith, few_bytes few)) ∙ sym (none_held circuit.latches i);
    broad = length-replicate {A = ℕ} longest_cube 0;
    wide = ap length es ∙ length_over _ (replicate longest_cube 0) (rw (length_pack, start_sized words c.latches) (omega (arith, few_bytes few, latch_bytes size)));
    lasting = λ i h. ap (λ (l : List ℕ). get_or l i 0) es ∙ padded_byte (start_fields words c.latches) i longest_cube ∙ ap (λ (v : Cube). byte_at v i) (sym (start_fields_lem c words));
    ready = r;
  }
    where
      first_record : pack_cubes (marked w) (cube_at circuit w) 1 ≡ pack_cube false (start circuit)
      first_record = unfold pack_cubes tabulate flatten marked cube_at stage in append-nil (pack_cube false (start circuit))

  module _ {count : ℕ} {held state cubes values : List ℕ} (g : Going count held state cubes values) where
    abbrev here : Stage
    here = stage circuit w g.last

    pub same_length : length cubes ≡ length buffer
    unfolding over
    same_length = ap length g.stored ∙ rw (length-append, length-drop, records_sized size (marked w) (cube_at circuit w) (cubes_sized c words w) count) (omega (arith, g.fits))

    pub all_fits : count * len ≤ length cubes
    all_fits = omega (arith, g.fits, same_length)

    -- the latches of the last cube are a record
    module _ (few : size ≤ 512) where
      room : bytes_for size ≤ length state
      room = omega (arith, g.wide, few_bytes few, latch_bytes size)

      first_bytes : Bytes (bytes_for size) (λ i. get_or state i 0) (cube_at circuit w g.last)
      first_bytes i h = g.lasting i (omega (arith, latch_bytes size))

      pub last_record : IsRecord size state
      last_record = bytes_record state (cube_at circuit w g.last) (cubes_sized c words w g.last) room first_bytes

      last_cube : unpack size state ≡ cube_at circuit w g.last
      last_cube = bytes_read state (cube_at circuit w g.last) (cubes_sized c words w g.last) room first_bytes

      -- the run's b, as the code reaches it
      pub reached_b : (b b' : List ℕ) → b' ≡ paste b 0 (kept_bytes len held (pack (next_cube circuit (unpack size state)))) len → Bytes len (λ i. get_or b' i 0) (reached circuit here)
      unfolding reached cube_at kept_bytes
      reached_b b b' e i h =
          let n : Cube = next_cube circuit here.cube in
          ap (λ (l : List ℕ). get_or l i 0) (e ∙ ap (λ (v : Cube). paste b 0 (kept_bytes len held (pack (next_cube circuit v))) len) last_cube)
          ∙ front_byte b _ len i h (omega (arith, length_kept len held (pack n)))
          ∙ get_or_tabulate len _ i 0 h
          ∙ bytes_kept held here.held g.holding _ n (λ k l. packed_byte n k) i h

    pub cube_bytes_lem : (k : ℕ) → k < count → Marked size (λ i. get_or cubes (k * len + i) 0) (code (known (marked w k))) (cube_at circuit w k)
    cube_bytes_lem k h i l = ap (λ (x : List ℕ). get_or x (k * len + i) 0) g.stored ∙ stored_bytes size (marked w) (cube_at circuit w) (cubes_sized c words w) buffer count k h i l

    abbrev pub Reached : List ℕ → Type 0
    Reached b = Bytes len (λ i. get_or b i 0) (reached circuit here)

    pub reach_sized : length (reached circuit here) ≡ size
    reach_sized = reached_sized circuit here ∙ latches_counted c words

-- The chain begins with cube 0: stored over what was lent, and followed from there. Assumes nothing.
use mathlib.Core.Path.{◌≡◌, refl, sym, ap, ◌∙◌}
use mathlib.Core.Bool.{true, false}
use mathlib.Core.List.{List, flatten}
use Prim.Native.Nat.{ℕ, ◌/◌, ◌≤◌}
use native.Mathlib.Omega.{arith}
use lib.ListN.{length, get_or, replicate}
use lib.Seq.{paste}
use Rattle.three.specs.Lists.{tabulate, over}
use Rattle.three.specs.Value.{code, known}
use Rattle.three.specs.Record.{pack}
use Rattle.three.proofs.Loops.{over_paste}
use Rattle.circuit.specs.declared.Counts.{Counts}
use Rattle.circuit.specs.Table.{circuit_of}
use Rattle.std.specs.Prelude.{Result, Ok}
use Rattle.cubes.specs.declared.Chain.{Chain}
use Rattle.cubes.specs.declared.NoRoom.{NoRoom}
use Rattle.cubes.specs.Run.{blocked, start as start_of, stops, cube_at, run}
use Rattle.stored.specs.CubesInCode.{start_fields, raised_bytes}
use Rattle.cubes.specs.Chain.{room_in, stored_cubes, back_to}
use Rattle.cubes.specs.OutcomesInCode.{has_stopped}
use Rattle.chain.specs.ChainInCode.{made_cubes, ChainMade, Followable}
use Rattle.stored.proofs.Raising.{raised_packed}
use Rattle.stored.proofs.Keeping.{behind_one}
use Rattle.cubes.proofs.Merging.{over_over, length_over}
use Rattle.stored.proofs.Starting.{start_sized}
use Rattle.cubes.proofs.Storing.{records_sized}
use Rattle.cubes.proofs.Buffered.{cubes_sized}
use Rattle.cubes.proofs.Steps.{run_dead}
use Rattle.cubes.specs.Buffer.{cube_bytes, pack_cube, pack_cubes, marked}
use Rattle.cubes.specs.BufferInCode.{longest_cube}
use Rattle.cubes.proofs.StoredCube.{cube_long}
use Rattle.cubes.proofs.Held.{padded_byte}

module _ (c : Counts) (words : List ℕ) (w : ℕ) (buffer start cubes : List ℕ) (len mark : ℕ) (size : len ≡ cube_bytes c.latches) (one : cube_bytes c.latches ≤ length buffer)
    (starts : start ≡ over (pack (start_fields words c.latches)) (replicate longest_cube 0)) (plain : mark ≡ code (known false)) (stored : cubes ≡ paste buffer 0 (raised_bytes len mark start) len) where
  start_long : length (pack_cube false (start_fields words c.latches)) ≡ cube_bytes c.latches
  start_long = cube_long false _ (start_sized words c.latches)

  start_record : raised_bytes len mark start ≡ pack_cube false (start_fields words c.latches)
  start_record =
      raised_packed len mark start c.latches size (start_fields words c.latches)
      (λ i h. ap (λ (l : List ℕ). get_or l i 0) starts ∙ padded_byte (start_fields words c.latches) i longest_cube)
      false plain (start_sized words c.latches)

  begun : cubes ≡ over (pack_cube false (start_fields words c.latches)) buffer
  begun = stored ∙ rw (start_record, size, ← start_long) (over_paste buffer (pack_cube false (start_fields words c.latches)))

  start_length : length cubes ≡ length buffer
  start_length = ap length begun ∙ length_over _ buffer (omega (arith, start_long))

  same_room : room_in c cubes ≡ room_in c buffer
  unfolding room_in
  same_room = ap (λ (n : ℕ). n / cube_bytes c.latches) start_length

  pub start_followable : blocked (circuit_of c words) (start_of (circuit_of c words)) ≡ false → length buffer ≤ 65536 → (room : ℕ) → room ≡ length cubes / len → Followable c words len room start cubes
  unfolding room_in
  start_followable free small room er = record {
    free = free;
    size = size;
    has_room = er ∙ ap (λ (n : ℕ). length cubes / n) size;
    one = omega (arith, start_length);
    small = omega (arith, start_length);
    starts = starts;
    begun = begun ∙ sym (ap (over (pack_cube false (start_fields words c.latches))) begun ∙ over_over _ _ buffer (omega arith));
  }

  pub chained_from : (r : Result Chain NoRoom) (cubes' : List ℕ) → ChainMade c words w cubes r cubes' → 1 ≤ made_cubes r → ChainMade c words w buffer r cubes'
  chained_from r cubes' h some = record {
    closes = rw same_room at h.closes;
    counts = rw same_room at h.counts;
    goes_back = rw same_room at h.goes_back;
    fills =
        h.fills ∙ ap (over (pack_cubes (marked w) (cube_at (circuit_of c words) w) (made_cubes r))) begun
        ∙ over_over (pack_cube false (start_fields words c.latches)) _ buffer
        (omega (arith, start_long, records_sized c.latches (marked w) (cube_at (circuit_of c words) w) (cubes_sized c words w) (made_cubes r), behind_one (cube_bytes c.latches) some));
  }

-- where a constraint is 0 in cube 0 nothing is stored
pub chained_none : (c : Counts) (words : List ℕ) (w : ℕ) (buffer : List ℕ) → blocked (circuit_of c words) (start_of (circuit_of c words)) ≡ true
    → ChainMade c words w buffer (Ok (record { cubes = 0; back = 0 })) buffer
unfolding has_stopped stored_cubes back_to pack_cubes tabulate flatten over
chained_none c words w buffer dead =
    let e : run (circuit_of c words) w (room_in c buffer) ≡ stops 0 0 = run_dead (circuit_of c words) w dead (room_in c buffer) in
    record { closes = rw e; counts = rw e; goes_back = rw e; fills = refl }

-- The loop that follows the chain: what each call asks and gives, and the ways out. Assumes nothing.
use mathlib.Core.Path.{◌≡◌, refl, ap, ◌∙◌}
use mathlib.Core.List.{List}
use Prim.Native.Nat.{ℕ, suc, ◌+◌, ◌*◌, ◌-◌, ◌<◌, ◌≤◌}
use native.Mathlib.Nat.{suc-mul, one-mul, mul_comm, mul-le-mul_right, add-sub_of_le, div-mul-le_self, le-div_iff_mul-le}
use native.Mathlib.Omega.{arith}
use lib.ListN.{length, replicate}
use lib.Seq.{paste, length-paste}
use Rattle.three.specs.Lists.{first}
use Rattle.three.specs.Record.{pack, unpack}
use Rattle.three.specs.RecordInCode.{IsRecord}
use Rattle.std.specs.Prelude.{Option, Some, None, Ok, Err}
use Rattle.circuit.specs.declared.Counts.{Counts}
use Rattle.circuit.specs.Table.{circuit_of}
use Rattle.chain.specs.declared.Progress.{Progress}
use Rattle.cubes.specs.Run.{due, next_cube, blocked, stage, stops, full, run}
use Rattle.cubes.specs.Run as Run
use Rattle.stored.specs.CubesInCode.{raised_bytes, kept_bytes, covers_from, SwitchesX}
use Rattle.cubes.specs.Chain.{room_in, stored_cubes, back_to}
use Rattle.chain.specs.ChainInCode.{gone_to, Advanced, ChainMade, Followable}
use Rattle.cubes.specs.OutcomesInCode.{has_stopped}
use Rattle.stored.proofs.Keeping.{length_kept}
use Rattle.chain.proofs.Chaining.{Going, Reached, same_length, all_fits, last_record, reached_b, going_first}
use Rattle.chain.proofs.Stopping.{b_record, b_read, stops_at, goes_on}
use Rattle.chain.proofs.Advancing.{going_next}
use Rattle.cubes.specs.Buffer.{cube_bytes}
use Rattle.cubes.specs.BufferInCode.{longest_cube}
use Rattle.cubes.proofs.StoredCube.{some_bytes as cube_some, few_bytes as cube_few}
use Rattle.cubes.proofs.Steps.{run_stays}

module _ (c : Counts) (words : List ℕ) (w len room : ℕ) (start buffer : List ℕ) where
  -- the loop's invariant
  pub record Turn (count : ℕ) (held state cubes values b : List ℕ) : Type 0 where
    pub given : Followable c words len room start buffer
    pub few : c.latches ≤ 512
    pub going : Going c words w buffer count held state cubes values
    pub within : count ≤ room
    pub long : length b ≡ longest_cube

  module _ {count : ℕ} {held state cubes values b : List ℕ} (t : Turn count held state cubes values b) where
    abbrev g : Going c words w buffer count held state cubes values
    g = t.going

    abbrev f : Followable c words len room start buffer
    f = t.given

    pub few_bytes : len ≤ longest_cube
    few_bytes = omega (arith, f.size, cube_few t.few)

    some_cubes : 1 ≤ count
    some_cubes = omega (arith, g.counts)

    pub cubes_fit : count * len ≤ length cubes
    cubes_fit = rw f.size (all_fits c words w buffer g)

    pub kept_length : length cubes ≡ length buffer
    kept_length = same_length c words w buffer g

    some_byte : 1 ≤ len
    some_byte = omega (arith, f.size, cube_some c.latches)

    -- no more cubes than bytes that may be lent
    pub count_within : count ≤ 65536
    count_within = omega (arith, mul-le-mul_right count some_byte, mul_comm count len, one-mul count, cubes_fit, kept_length, f.small)

    pub state_record : IsRecord c.latches state
    state_record = last_record c words w buffer g t.few

    pub held_room : cube_bytes c.latches ≤ length held
    held_room = omega (arith, few_bytes, f.size, g.broad)

    -- what `reach` leaves
    pub reached : (b' : List ℕ) → b' ≡ paste b 0 (kept_bytes (cube_bytes c.latches) held (pack (next_cube (circuit_of c words) (unpack c.latches state)))) (cube_bytes c.latches) → Reached c words w buffer g b'
    reached b' e = reached_b c words w buffer g t.few b b' e

    pub reached_long : (next b' : List ℕ) → b' ≡ paste b 0 (kept_bytes (cube_bytes c.latches) held next) (cube_bytes c.latches) → length b' ≡ longest_cube
    reached_long next b' e =
        ap length e ∙ length-paste b 0 _ (cube_bytes c.latches) (omega (arith, few_bytes, f.size, t.long)) (omega (arith, length_kept (cube_bytes c.latches) held next)) ∙ t.long

    -- b as a record of latches
    pub reached_record : (b' : List ℕ) → Reached c words w buffer g b' → length b' ≡ longest_cube → IsRecord c.latches b'
    reached_record b' r long' = b_record c words w buffer g b' r t.few long'

    module _ (b' : List ℕ) (r : Reached c words w buffer g b') (long' : length b' ≡ longest_cube) (o : Option ℕ)
        (sought : o ≡ gone_to (blocked (circuit_of c words) (unpack c.latches b')) count (first count (λ k. covers_from len cubes (raised_bytes len 3 b') (k * len)))) where
      gone : o ≡ gone_to (blocked (circuit_of c words) (Run.reached (circuit_of c words) (stage (circuit_of c words) w g.last))) count
          (first count (λ k. covers_from (cube_bytes c.latches) cubes (raised_bytes (cube_bytes c.latches) 3 b') (k * cube_bytes c.latches)))
      gone = rw (f.size, b_read c words w buffer g b' r t.few long') at sought

      -- the run is closed, or ended
      pub stopped_now : (back : ℕ) → o ≡ Some back → ChainMade c words w buffer (Ok (record { cubes = count; back = back })) cubes × (1 ≤ count)
      unfolding stored_cubes has_stopped back_to
      stopped_now back h =
          let e : run (circuit_of c words) w (room_in c buffer) ≡ stops count back =
          rw (← f.has_room, ← add-sub_of_le t.within) (run_stays (circuit_of c words) w count (room - count) count back (stops_at c words w buffer g b' r o gone back h)) in
          (record { closes = rw e; counts = rw e; goes_back = rw e; fills = g.stored }, some_cubes)

      open_yet : o ≡ None → run (circuit_of c words) w count ≡ full
      open_yet h = goes_on c words w buffer g b' r o gone h

      -- no room is left
      pub full_now : o ≡ None → count ≡ room → ChainMade c words w buffer (Err (record { cubes = count })) cubes × (1 ≤ count)
      unfolding stored_cubes has_stopped back_to
      full_now h e =
          let room= : count ≡ room_in c buffer = e ∙ f.has_room in
          let o : run (circuit_of c words) w (room_in c buffer) ≡ full = rw (← room=) (open_yet h) in
          (record { closes = rw o; counts = rw (o) room=; goes_back = rw o; fills = g.stored }, some_cubes)

      -- or one cube more is stored
      module _ (h : o ≡ None) (more : count ≡ room → ⊥) where
        pub next_fits : count * len + len ≤ length buffer
        unfolding room_in
        next_fits =
            let whole : room * len ≤ length buffer = rw (f.has_room, f.size) (div-mul-le_self (length buffer) (cube_bytes c.latches)) in
            let below : suc count ≤ room = omega (arith, t.within) in
            omega (arith, mul-le-mul_right len below, suc-mul count len)

        pub count_small : count < 65536
        count_small = omega (arith, some_byte, mul-le-mul_right count some_byte, mul_comm count len, one-mul count, next_fits, f.small)

        pub next_fits_now : count * len + len ≤ length cubes
        next_fits_now = omega (arith, next_fits, kept_length)

        pub turn_next : (after : Progress) (cubes' values' : List ℕ) → Advanced (due w count) len (record { count = count; held = held; last = state }) cubes b' after cubes' → SwitchesX c values'
            → Turn after.count after.held after.last cubes' values' b'
        turn_next after cubes' values' a ready = record {
          given = f;
          few = t.few;
          going = going_next c words w buffer g b' r (due w count) refl (open_yet h) after cubes' (rw f.size at a) t.few values' ready (rw f.size at next_fits);
          within = omega (arith, a.counts, t.within);
          long = long';
        }

  pub turn_first : Followable c words len room start buffer → c.latches ≤ 512 → (values b : List ℕ) → SwitchesX c values → length b ≡ longest_cube → Turn 1 (replicate longest_cube 0) start buffer values b
  unfolding room_in
  turn_first f few values b r l = record {
    given = f;
    few = few;
    going = going_first c words w buffer f.free start buffer values few f.one f.starts f.begun r;
    within = rw f.has_room ((le-div_iff_mul-le {k = cube_bytes c.latches} (cube_some c.latches)).1 (omega (arith, one-mul (cube_bytes c.latches), f.one)));
    long = l;
  }

-- One cube more: the latches held then, the last cube, and its record behind the others. Assumes nothing.
use mathlib.Core.Path.{◌≡◌, refl, sym, ap, ◌∙◌}
use mathlib.Core.Bool.{Bool, true, false}
use mathlib.Core.List.{List}
use Prim.Native.Nat.{ℕ, ◌+◌, ◌*◌, ◌≤◌}
use native.Mathlib.Nat.{suc-mul}
use native.Mathlib.Numerals.{add-one}
use native.Mathlib.Omega.{arith}
use lib.Bits.{bit_or}
use lib.ListN.{length, get_or}
use lib.Seq.{paste, length-paste}
use Rattle.three.specs.Lists.{over}
use Rattle.three.specs.Value.{code, known}
use Rattle.three.specs.Record.{byte_at}
use Rattle.three.proofs.Lists.{length_tabulate, get_or_tabulate}
use Rattle.circuit.specs.declared.Counts.{Counts}
use Rattle.circuit.specs.Circuit.{Circuit}
use Rattle.circuit.specs.Table.{circuit_of}
use Rattle.chain.specs.declared.Progress.{Progress}
use Rattle.cubes.specs.Run.{due, Stage, reached, widened, store, stage, cube_at, full, run}
use Rattle.cubes.specs.Buffer.{cube_bytes, pack_cubes, pack_cube, marked}
use Rattle.cubes.specs.HeldInCode.{held_byte, differing_byte}
use Rattle.cubes.proofs.Storing.{stored_more}
use Rattle.cubes.proofs.Buffered.{cubes_sized}
use Rattle.cubes.proofs.StoredCube.{few_bytes}
use Rattle.cubes.proofs.Held.{Bytes, HeldBytes, bytes_kept, bytes_widened}
use Rattle.stored.specs.CubesInCode.{raised_bytes, kept_bytes, SwitchesX}
use Rattle.stored.proofs.Raising.{front_byte, raised_packed}
use Rattle.stored.proofs.Keeping.{length_kept}
use Rattle.chain.specs.ChainInCode.{widened_bytes, held_after, Advanced}
use Rattle.chain.proofs.Keeping.{held_long}
use Rattle.chain.proofs.Chaining.{Going, flags_sized, Reached, reach_sized}

module _ (c : Counts) (words : List ℕ) (w : ℕ) (buffer : List ℕ) {count : ℕ} {held state cubes values : List ℕ} (g : Going c words w buffer count held state cubes values)
    (b : List ℕ) (reach : Reached c words w buffer g b) (d : Bool) (is_due : d ≡ due w count) (open_still : run (circuit_of c words) w count ≡ full) (after : Progress) (cubes' : List ℕ)
    (advanced : Advanced d (cube_bytes c.latches) (record { count = count; held = held; last = state }) cubes b after cubes') where
  abbrev circuit : Circuit
  circuit = circuit_of c words

  abbrev size : ℕ
  size = c.latches

  abbrev len : ℕ
  len = cube_bytes c.latches

  abbrev here : Stage
  here = stage circuit w g.last

  abbrev flags : List Bool
  flags = widened d here (reached circuit here)

  held_next : HeldBytes len after.held flags
  held_next i l = ap (λ (x : List ℕ). get_or x i 0) advanced.holds ∙ go d
    where
      wider : Bool → List ℕ
      wider e = held_after e len held state b

      same_size : length here.cube ≡ length (reached circuit here)
      same_size = unfold cube_at in cubes_sized c words w g.last ∙ sym (reach_sized c words w buffer g)

      go : (e : Bool) → get_or (wider e) i 0 ≡ held_byte (widened e here (reached circuit here)) i
      go false = unfold held_after widened in g.holding i l
      go true = unfold held_after widened widened_bytes cube_at in
          front_byte held _ len i l (omega (arith, length_tabulate len (λ k. bit_or (get_or held k 0) (differing_byte (get_or state k 0) (get_or b k 0)))))
          ∙ get_or_tabulate len _ i 0 l
          ∙ bytes_widened held here.held g.holding _ _ here.cube (reached circuit here) (flags_sized c words w buffer g.last ∙ sym (cubes_sized c words w g.last)) same_size g.lasting reach i l

  stage_next : stage circuit w count ≡ store d here (reached circuit here)
  unfolding stage
  stage_next = ap (stage circuit w) g.counts ∙ ap (λ (e : Bool). store e here (reached circuit here)) (sym (is_due ∙ ap (due w) g.counts))

  -- its latches
  last_next : Bytes len (λ i. get_or after.last i 0) (cube_at circuit w count)
  unfolding cube_at store kept_bytes
  last_next i h =
      ap (λ (l : List ℕ). get_or l i 0) advanced.keeps
      ∙ front_byte state _ len i h (omega (arith, length_kept len after.held b))
      ∙ get_or_tabulate len _ i 0 h
      ∙ bytes_kept after.held flags held_next _ (reached circuit here) reach i h
      ∙ ap (λ (s : Stage). byte_at s.cube i) (sym stage_next)

  -- and its mark
  mark_next : d ≡ marked w count
  unfolding marked
  mark_next = is_due ∙ ap (due w) g.counts ∙ sym (ap (marked w) g.counts)

  record_next : raised_bytes len (code (known d)) after.last ≡ pack_cube (marked w count) (cube_at circuit w count)
  record_next = raised_packed len _ after.last size refl (cube_at circuit w count) last_next (marked w count) (ap (λ (e : Bool). code (known e)) mark_next) (cubes_sized c words w count)

  pub going_next : size ≤ 512 → (values' : List ℕ) → SwitchesX c values' → count * len + len ≤ length buffer → Going c words w buffer after.count after.held after.last cubes' values'
  unfolding store
  going_next few values' r room = record {
    last = count;
    counts = advanced.counts ∙ rw add-one;
    fits = rw (advanced.counts, add-one) (omega (arith, suc-mul count len));
    open_yet = open_still;
    stored =
        advanced.stores ∙ ap (λ (x : List ℕ). paste x (count * len) (raised_bytes len (code (known d)) after.last) len) g.stored
        ∙ stored_more size (marked w) (cube_at circuit w) (cubes_sized c words w) buffer count (raised_bytes len (code (known d)) after.last) record_next room
        ∙ ap (λ (n : ℕ). over (pack_cubes (marked w) (cube_at circuit w) n) buffer) (sym (advanced.counts ∙ rw add-one));
    holding = λ i l. held_next i l ∙ ap (λ (s : Stage). held_byte s.held i) (sym stage_next);
    broad = ap length advanced.holds ∙ held_long d len held state b (omega (arith, g.broad, few_bytes few)) ∙ g.broad;
    wide = ap length advanced.keeps ∙ length-paste state 0 _ len (omega (arith, g.wide, few_bytes few)) (omega (arith, length_kept len after.held b)) ∙ g.wide;
    lasting = last_next;
    ready = r;
  }

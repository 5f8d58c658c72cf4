-- Where b goes: a constraint that is 0 in it ends the run, the first stored cube that covers it closes it, and else the run goes on. Assumes nothing.
use mathlib.Core.Path.{◌≡◌, refl, sym, ap, ◌∙◌}
use mathlib.Core.Bool.{Bool, true, false, cond}
use mathlib.Core.List.{List}
use Rattle.std.specs.Prelude.{Option, Some, None}
use Prim.Native.Nat.{ℕ, suc, ◌*◌, ◌<◌, ◌≤◌}
use native.Mathlib.Omega.{arith}
use borrow.Author.Tests.{ltb-true, ltb-false, lt-ltb, le-ltb}
use lib.Dec.{ltb}
use lib.ListN.{length, get_or}
use Rattle.three.specs.Lists.{first}
use Rattle.three.specs.Value.{known}
use Rattle.three.specs.Cube.{subsumes}
use Rattle.three.specs.Record.{bytes_for, unpack}
use Rattle.three.specs.RecordInCode.{IsRecord}
use Rattle.three.proofs.First.{first_ext}
use Rattle.three.proofs.Lists.{by_test}
use Rattle.circuit.specs.declared.Counts.{Counts}
use Rattle.circuit.specs.Circuit.{Circuit}
use Rattle.circuit.specs.Table.{circuit_of}
use Rattle.cubes.specs.Run.{blocked, Stage, reached, stage, cube_at, Found, at, nowhere, search, stops, full, stepped, back, run}
use Rattle.cubes.specs.Buffer.{cube_bytes, marked}
use Rattle.cubes.specs.BufferInCode.{longest_cube}
use Rattle.cubes.proofs.First.{search_first}
use Rattle.cubes.proofs.Steps.{run_step}
use Rattle.cubes.proofs.Buffered.{cubes_sized}
use Rattle.cubes.proofs.StoredCube.{few_bytes, latch_bytes}
use Rattle.cubes.proofs.Marks.{sought_mark, cube_covers}
use Rattle.cubes.proofs.Held.{Bytes, bytes_read, bytes_record}
use Rattle.stored.specs.CubesInCode.{raised_bytes, covers_from, FoundFirst}
use Rattle.stored.proofs.Raising.{raised_bytes_lem}
use Rattle.chain.specs.ChainInCode.{gone_to}
use Rattle.chain.proofs.Chaining.{Going, Reached, reach_sized, cube_bytes_lem}

-- ---- as the code tells it: r is what it read of the constraints, o what it found

module _ (n j : ℕ) {d r : Bool} (read : r ≡ d) where
  pub gone_ended : r ≡ true → Some n ≡ gone_to d n j
  unfolding gone_to
  gone_ended e = let is : d ≡ true = sym read ∙ e in rw is

  pub gone_found : r ≡ false → (o : Option ℕ) → FoundFirst n j o → o ≡ gone_to d n j
  unfolding gone_to
  gone_found e (Some k) found = let free : d ≡ false = sym read ∙ e in rw (free, lt-ltb j n (omega (arith, found))) (ap Some found.0)
  gone_found e None found = let free : d ≡ false = sym read ∙ e in rw (free, le-ltb j n found) refl

-- and as the run tells it
abbrev told : Option ℕ → Found
told (Some j) = at j
told None = nowhere

gone_where : (n : ℕ) (f : Found) {j : ℕ} → (j < n → f ≡ at j) × (n ≤ j → f ≡ nowhere) → (d : Bool) → cond d (at n) f ≡ told (gone_to d n j)
unfolding gone_to
gone_where n f looked true = refl
gone_where n f {j} looked false = by_test (ltb j n)
    (λ t. rw t (looked.0 (ltb-true j n t)))
    (λ t. rw t (looked.1 (ltb-false j n t)))

module _ (c : Counts) (words : List ℕ) (w : ℕ) (buffer : List ℕ) {count : ℕ} {held state cubes values : List ℕ} (g : Going c words w buffer count held state cubes values)
    (b : List ℕ) (reach : Reached c words w buffer g b) where
  abbrev circuit : Circuit
  circuit = circuit_of c words

  abbrev size : ℕ
  size = c.latches

  abbrev len : ℕ
  len = cube_bytes c.latches

  abbrev here : Stage
  here = stage circuit w g.last

  -- ---- b is a record of latches

  module _ (few : size ≤ 512) (wide : length b ≡ longest_cube) where
    room : bytes_for size ≤ length b
    room = omega (arith, few_bytes few, latch_bytes size)

    b_bytes : Bytes (bytes_for size) (λ i. get_or b i 0) (reached circuit here)
    b_bytes i h = reach i (omega (arith, latch_bytes size))

    pub b_record : IsRecord size b
    b_record = bytes_record b (reached circuit here) (reach_sized c words w buffer g) room b_bytes

    pub b_read : unpack size b ≡ reached circuit here
    b_read = bytes_read b (reached circuit here) (reach_sized c words w buffer g) room b_bytes

  -- ---- the byte-wise search is the run's

  covering : (k : ℕ) → k < count → covers_from len cubes (raised_bytes len 3 b) (k * len) ≡ subsumes (cube_at circuit w k) (reached circuit here)
  unfolding covers_from
  covering k h =
      cube_covers _ _ _ _ _ _ (cubes_sized c words w k) (reach_sized c words w buffer g) (sought_mark (known (marked w k))) (cube_bytes_lem c words w buffer g k h) (raised_bytes_lem len 3 b size refl (reached circuit here) reach)

  abbrev sought : ℕ
  sought = first count (λ k. covers_from len cubes (raised_bytes len 3 b) (k * len))

  looked : sought ≡ first (suc g.last) (λ k. subsumes (cube_at circuit w k) (reached circuit here))
  looked = first_ext count _ _ covering ∙ ap (λ (n : ℕ). first n (λ k. subsumes (cube_at circuit w k) (reached circuit here))) g.counts

  found : (sought < suc g.last → search (cube_at circuit w) (suc g.last) (reached circuit here) ≡ at sought)
      × (suc g.last ≤ sought → search (cube_at circuit w) (suc g.last) (reached circuit here) ≡ nowhere)
  found = rw (← looked) at (search_first (cube_at circuit w) (reached circuit here) (suc g.last))

  module _ (o : Option ℕ) (gone : o ≡ gone_to (blocked circuit (reached circuit here)) count sought) where
    goes : back circuit w g.last ≡ told o
    unfolding back
    goes =
        gone_where (suc g.last) _ found (blocked circuit (reached circuit here))
        ∙ ap told (sym (gone ∙ ap (λ (n : ℕ). gone_to (blocked circuit (reached circuit here)) n sought) g.counts))

    pub stops_at : (j : ℕ) → o ≡ Some j → run circuit w count ≡ stops count j
    unfolding stepped
    stops_at j h = rw g.counts (run_step circuit w g.last g.open_yet (goes ∙ ap told h))

    pub goes_on : o ≡ None → run circuit w count ≡ full
    unfolding stepped
    goes_on h = rw g.counts (run_step circuit w g.last g.open_yet (goes ∙ ap told h))

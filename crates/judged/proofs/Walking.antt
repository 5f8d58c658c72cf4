-- Cube 0 against the resets, and each next state against the cube that comes after: byte by byte what the definition says. Assumes nothing.
use mathlib.Core.Path.{◌≡◌, refl, sym, ap, ◌∙◌}
use mathlib.Core.Bool.{Bool, true, false, ◌||◌, false≢true}
use mathlib.Core.List.{List}
use Rattle.std.specs.Prelude.{Option, Some, None}
use Rattle.std.specs.Option.{MatchOption, IfSome}
use Prim.Native.Nat.{ℕ, ◌+◌, ◌*◌, ◌<◌, ◌≤◌}
use native.Mathlib.Nat.{zero-add, zero-mul, mul-le-mul_right}
use native.Mathlib.Omega.{arith}
use borrow.Author.Tests.{lt-ltb, le-ltb}
use lib.ListN.{length, get_or, drop, replicate}
use lib.Seq.{paste}
use Rattle.three.specs.Lists.{over}
use Rattle.three.specs.Cube.{Cube, subsumes}
use Rattle.three.specs.Record.{bytes_for, byte_at, pack}
use Rattle.three.proofs.Lists.{every_all, every_fails}
use Rattle.circuit.specs.declared.Counts.{Counts}
use Rattle.circuit.specs.Circuit.{Circuit}
use Rattle.circuit.specs.Table.{verdicts, circuit_of}
use Rattle.circuit.specs.RulesInCode.{Legal}
use Rattle.pass.specs.ValuesInCode.{values_of, literal_values}
use Rattle.cubes.specs.Run.{next_cube, watched_in, blocked, start}
use Rattle.cubes.specs.Buffer.{cube_bytes, cube_of, cube_in}
use Rattle.cubes.specs.BufferInCode.{longest_cube, IsCube, Cubes, mark_of}
use Rattle.cubes.specs.Given.{same, onward, goes_to, goes_on}
use Rattle.cubes.proofs.StoredCube.{cube_of_sized, cube_at_lem}
use Rattle.cubes.proofs.Marks.{no_mark, cube_covers}
use Rattle.cubes.proofs.Held.{Bytes, padded_byte}
use Rattle.cubes.proofs.Storing.{cube_place}
use Rattle.cubes.proofs.Buffered.{next_counted}
use Rattle.cubes.proofs.Places.{onward_within}
use Rattle.stored.specs.CubesInCode.{start_fields, raised_bytes, covers_from, Settled}
use Rattle.stored.proofs.Starting.{start_fields_lem, start_sized}
use Rattle.stored.proofs.Reaching.{next_bytes}
use Rattle.stored.proofs.Inside.{bytes_at, covers_at}
use Rattle.stored.proofs.Raising.{front_byte, length_raised, raised_bytes_lem}
use Rattle.judge.specs.JudgeInCode.{Judgeable, Settleable}
use Rattle.judge.proofs.Passing.{Passing, all_passed, all_judged}
use Rattle.judged.specs.JudgedInCode.{and_then, lies_in, inside, goes_into, Walked}

-- ---- the same cube

pub same_fails : (a b : Cube) → subsumes a b ≡ false → false ≡ same a b
unfolding same
same_fails a b e = rw e

pub same_decided : (a b : Cube) {r : Bool} → subsumes a b ≡ true → r ≡ subsumes b a → r ≡ same a b
unfolding same
same_decided a b e f = rw e f

module _ (c : Counts) (words cubes : List ℕ) (small : (i : ℕ) → get_or cubes i 0 < 256) (len : ℕ) (size : len ≡ cube_bytes c.latches) where
  abbrev circuit : Circuit
  circuit = circuit_of c words

  -- ---- cube 0

  module _ (cube : IsCube c.latches cubes) (start₀ : List ℕ) (begun : start₀ ≡ over (pack (start_fields words c.latches)) (replicate longest_cube 0)) where
    start_bytes : Bytes len (λ i. get_or start₀ i 0) (start circuit)
    start_bytes i h =
        ap (λ (l : List ℕ). get_or l i 0) begun ∙ padded_byte (start_fields words c.latches) i longest_cube ∙ ap (λ (v : Cube). byte_at v i) (sym (start_fields_lem c words))

    start_long : length (start circuit) ≡ c.latches
    start_long = rw (start_fields_lem c words) (start_sized words c.latches)

    pub start_inside : {r : Bool} → r ≡ covers_from len cubes (raised_bytes len 3 start₀) 0 → r ≡ subsumes (cube_of c.latches cubes) (start circuit)
    start_inside e = e ∙ covers_at c.latches len size cubes small 0 cube start₀ (start circuit) start_long start_bytes

    -- the other way the start has no mark
    pub start_around : (d around : List ℕ) → around ≡ paste d 0 (raised_bytes len 0 start₀) len → {r : Bool} → r ≡ covers_from len around cubes 0 → r ≡ subsumes (start circuit) (cube_of c.latches cubes)
    unfolding covers_from
    start_around d around ea e =
        e ∙ ap (λ (m : ℕ). covers_from m around cubes 0) size
        ∙ cube_covers _ _ _ _ _ _ start_long (cube_of_sized c.latches cubes) (no_mark (mark_of cubes))
        (λ i h. let l : i < len = rw size h in
        ap (λ (m : ℕ). get_or around m 0) (zero-add i)
        ∙ ap (λ (x : List ℕ). get_or x i 0) ea
        ∙ front_byte d (raised_bytes len 0 start₀) len i l (omega (arith, length_raised len 0 start₀))
        ∙ raised_bytes_lem len 0 start₀ c.latches size (start circuit) start_bytes i h)
        (λ i h. ap (λ (m : ℕ). get_or cubes m 0) (sym (zero-add i)) ∙ bytes_at c.latches len size cubes small 0 cube i h)

  -- ---- the next state of a cube

  pub next_inside : Legal c words → (state : Cube) → length state ≡ c.latches → (t b : List ℕ) → Settled c words state t → b ≡ over (pack (literal_values (values_of t) words 0 2 c.latches)) (replicate longest_cube 0)
      → (to : ℕ) → IsCube c.latches (drop to cubes) → {r : Bool} → r ≡ covers_from len cubes (raised_bytes len 3 b) to → r ≡ subsumes (cube_of c.latches (drop to cubes)) (next_cube circuit state)
  next_inside legal state sized t b settled stored to cube e =
      e ∙ covers_at c.latches len size cubes small to cube b (next_cube circuit state) (next_counted c words state) (next_bytes c words legal state sized t settled b stored len)

  -- the same by number, where there is one
  pub next_lies : Legal c words → (state : Cube) → length state ≡ c.latches → (t b : List ℕ) → Settled c words state t → b ≡ over (pack (literal_values (values_of t) words 0 2 c.latches)) (replicate longest_cube 0)
      → (after : Option ℕ) → IfSome after (λ m. (m * cube_bytes c.latches + cube_bytes c.latches ≤ length cubes) × IsCube c.latches (drop (m * cube_bytes c.latches) cubes))
      → {r : Bool} → r ≡ lies_in len cubes b after → r ≡ inside (cube_in c.latches cubes) after (next_cube circuit state)
  next_lies legal state sized t b settled stored None stands e = e
  next_lies legal state sized t b settled stored (Some m) stands e =
      next_inside legal state sized t b settled stored (m * len) (rw size stands.1) e
      ∙ ap (λ (v : Cube). subsumes v (next_cube circuit state)) (cube_at_lem c.latches size cubes m)

-- ---- inside, or a constraint is 0

pub then_not : (b : Bool) {a : Bool} → a ≡ false → false ≡ and_then a b
unfolding and_then
then_not b e = rw e

pub then_asked : {a b r : Bool} → a ≡ true → r ≡ b → r ≡ and_then a b
unfolding and_then
then_asked e f = rw e f

-- what is asked behind a test needs to be the same only where that holds
pub then_same : (a b b' : Bool) {r : Bool} → r ≡ and_then a b → (a ≡ true → b ≡ b') → r ≡ and_then a b'
unfolding and_then
then_same true b b' e f = e ∙ f refl
then_same false b b' e f = e

module _ (c : Circuit) (cubes : ℕ → Cube) (after : Option ℕ) (b : Cube) {l : Bool} (lies : l ≡ inside cubes after b) where
  pub goes_inside : l ≡ true → true ≡ goes_into c cubes after b
  unfolding goes_into
  goes_inside e = ap (λ (x : Bool). x || blocked c b) (sym e ∙ lies)

  pub goes_blocked : l ≡ false → {r : Bool} → r ≡ blocked c b → r ≡ goes_into c cubes after b
  unfolding goes_into
  goes_blocked e f = f ∙ ap (λ (x : Bool). x || blocked c b) (sym e ∙ lies)

-- the cubes from j on, by the length as the code has it
pub settleable : (latches n j : ℕ) (cubes : List ℕ) → latches ≤ 512 → Cubes latches (cube_bytes latches) n cubes → j < n → {len : ℕ} → len ≡ cube_bytes latches → Settleable latches len n j cubes
settleable latches n j cubes few are below e = rw e (record { few = few; size = are.size; below = below; fits = are.fits; cube = are.cube })

-- ---- the walk

module _ (c : Counts) (words : List ℕ) (n : ℕ) (cubes : List ℕ) where
  pub judgeable : Legal c words → Cubes c.latches (cube_bytes c.latches) n cubes → 1 ≤ n → Judgeable c words (cube_bytes c.latches) n cubes
  judgeable legal are some = record { legal = legal; size = are.size; some = some; fits = are.fits; cube = are.cube }

  pub of_length : Judgeable c words (cube_bytes c.latches) n cubes → {len : ℕ} → len ≡ cube_bytes c.latches → Judgeable c words len n cubes
  of_length j e = rw e j

-- what the code says of the cube that comes after cube number k
abbrev Onward : ℕ → ℕ → ℕ → Option ℕ → Type 0
Onward n j k after = MatchOption after (n ≤ onward n j k) (λ m. (m ≡ onward n j k) × (m < n))

goes_same : (c : Circuit) (cubes : ℕ → Cube) (n j k : ℕ) (after : Option ℕ) → Onward n j k after → (b : Cube) → goes_into c cubes after b ≡ goes_to c cubes n (onward n j k) b
unfolding goes_into goes_to
goes_same c cubes n j k None is b = rw (le-ltb (onward n j k) n is)
goes_same c cubes n j k (Some m) is b = rw (is.0, lt-ltb (onward n j k) n (rw is.0 at is.1))

-- it stands in the buffer
pub after_cube : (c : Counts) (words : List ℕ) (n j : ℕ) (cubes : List ℕ) → Judgeable c words (cube_bytes c.latches) n cubes → (k : ℕ) (after : Option ℕ) → Onward n j k after
    → IfSome after (λ m. (m * cube_bytes c.latches + cube_bytes c.latches ≤ length cubes) × IsCube c.latches (drop (m * cube_bytes c.latches) cubes))
after_cube c words n j cubes given k None is = tt
after_cube c words n j cubes given k (Some m) is = (cube_place n (cube_bytes c.latches) m (length cubes) is.1 given.fits, given.cube m is.1)

module _ (c : Counts) (words : List ℕ) (n j : ℕ) (cubes : List ℕ) where
  -- the next state of cube number k goes to the cube that comes after
  abbrev pub follows : ℕ → Bool
  follows = goes_on (circuit_of c words) (cube_in c.latches cubes) n j

  pub walked_part : (entry : List ℕ) {verdict : List ℕ} (k : ℕ) → k < n → {r : Bool} → r ≡ follows k → r ≡ false → Walked c words cubes n j entry false verdict
  walked_part entry k h e f = record { follows = sym (every_fails n follows k h (sym e ∙ f)); judges = λ z. absurd (false≢true z) }

module _ (c : Counts) (words : List ℕ) (len n j : ℕ) (cubes : List ℕ) where
  module _ (given : Judgeable c words len n cubes) where
    -- after cube number k, as the code asks it
    pub asked : (k : ℕ) (after : Option ℕ) → Onward n j k after
        → {r : Bool} → r ≡ goes_into (circuit_of c words) (cube_in c.latches cubes) after (next_cube (circuit_of c words) (cube_of c.latches (drop (k * len) cubes))) → r ≡ follows c words n j cubes k
    unfolding goes_on
    asked k after is e =
        e ∙ ap (λ (v : Cube). goes_into (circuit_of c words) (cube_in c.latches cubes) after (next_cube (circuit_of c words) v)) (cube_at_lem c.latches given.size cubes k)
        ∙ goes_same (circuit_of c words) (cube_in c.latches cubes) n j k after is (next_cube (circuit_of c words) (cube_in c.latches cubes k))

    pub asked_first : (after : Option ℕ) → Onward n j 0 after
        → {r : Bool} → r ≡ goes_into (circuit_of c words) (cube_in c.latches cubes) after (next_cube (circuit_of c words) (cube_of c.latches cubes)) → r ≡ follows c words n j cubes 0
    asked_first after is e = asked 0 after is (rw zero-mul e)

    -- the place of the cube that comes after is within the buffer, or its end
    pub after_product : (k : ℕ) → j ≤ n → {m : ℕ} → m ≡ onward n j k → m * len ≤ length cubes
    after_product k within {m} is = omega (arith, mul-le-mul_right len (rw (← is) at (onward_within n j k within)), given.fits)

  module _ (entry : List ℕ) (fits : bytes_for (verdicts c) ≤ length entry) (begun : List ℕ) (first : begun ≡ over (pack (watched_in (circuit_of c words) (cube_of c.latches cubes))) entry)
      {verdict values seen : List ℕ} {k : ℕ} (p : Passing c words len n cubes (follows c words n j cubes) begun verdict values seen k) where
    pub walked_all : n ≤ k → Walked c words cubes n j entry true verdict
    walked_all h = record {
      follows = sym (every_all n (follows c words n j cubes) (all_passed c words len n cubes (follows c words n j cubes) entry fits begun first p h));
      judges = λ z. all_judged c words len n cubes (follows c words n j cubes) entry fits begun first p h;
    }

-- Cubes that are given, byte by byte: what the search finds among them is what the definition finds. Assumes nothing.
use mathlib.Core.Path.{◌≡◌, sym, ap, ◌∙◌}
use mathlib.Core.Bool.{Bool, true, false, false≢true}
use mathlib.Core.List.{List}
use Rattle.std.specs.Prelude.{Option, None, Some, is_some}
use Prim.Native.Nat.{ℕ, ◌+◌, ◌*◌, ◌<◌, ◌≤◌}
use native.Mathlib.Omega.{arith}
use lib.ListN.{length, get_or, drop}
use lib.Seq.{get_or-drop}
use Rattle.three.specs.Lists.{first}
use Rattle.three.specs.Value.{code}
use Rattle.three.specs.Cube.{Cube, subsumes}
use Rattle.three.proofs.First.{first_ext}
use Rattle.circuit.specs.Circuit.{Circuit}
use Rattle.cubes.specs.Run.{Found, at, nowhere, blocked}
use Rattle.cubes.specs.Buffer.{cube_bytes, cube_in, cube_of}
use Rattle.cubes.specs.BufferInCode.{Cubes, IsCube, mark_of}
use Rattle.cubes.specs.Given.{covered}
use Rattle.cubes.proofs.StoredCube.{cube_at_lem, cube_record, cube_of_sized}
use Rattle.cubes.proofs.Raised.{Marked, given_bytes}
use Rattle.cubes.proofs.Marks.{sought_mark, cube_covers}
use Rattle.cubes.proofs.Held.{Bytes}
use Rattle.cubes.proofs.First.{search_first}
use Rattle.stored.specs.CubesInCode.{raised_bytes, covers_from, FoundFirst}
use Rattle.stored.proofs.Raising.{raised_bytes_lem}

-- ---- what a search answers

found_below : {n j : ℕ} (o : Option ℕ) → FoundFirst n j o → is_some o ≡ true → j < n
found_below (Some k) e h = omega (arith, e)
found_below None e h = absurd (false≢true h)

found_beyond : {n j : ℕ} (o : Option ℕ) → FoundFirst n j o → is_some o ≡ false → n ≤ j
found_beyond (Some k) e h = absurd (false≢true (sym h))
found_beyond None e h = e

-- the cube at byte `at`
module _ (latches len : ℕ) (size : len ≡ cube_bytes latches) (cubes : List ℕ) (small : (i : ℕ) → get_or cubes i 0 < 256) (at : ℕ) (cube : IsCube latches (drop at cubes)) where
  pub bytes_at : Marked latches (λ i. get_or cubes (at + i) 0) (code (mark_of (drop at cubes))) (cube_of latches (drop at cubes))
  bytes_at i l = sym (get_or-drop at cubes i 0) ∙ given_bytes (drop at cubes) (cube_record latches _ cube) (λ m. rw get_or-drop (small (at + m))) i l

  -- the byte-wise test is subsumption, whatever its mark is
  pub covers_at : (b : List ℕ) (v : Cube) → length v ≡ latches → Bytes len (λ i. get_or b i 0) v → covers_from len cubes (raised_bytes len 3 b) at ≡ subsumes (cube_of latches (drop at cubes)) v
  unfolding covers_from
  covers_at b v sized is =
      ap (λ (m : ℕ). covers_from m cubes (raised_bytes len 3 b) at) size
      ∙ cube_covers _ _ _ _ _ _ (cube_of_sized latches _) sized (sought_mark (mark_of (drop at cubes))) bytes_at (raised_bytes_lem len 3 b latches size v is)

module _ (latches len n : ℕ) (cubes : List ℕ) (are : Cubes latches len n cubes) (small : (i : ℕ) → get_or cubes i 0 < 256) where
  module _ (b : List ℕ) (v : Cube) (sized : length v ≡ latches) (is : Bytes len (λ i. get_or b i 0) v) where
    given_covers : (k : ℕ) → k < n → covers_from len cubes (raised_bytes len 3 b) (k * len) ≡ subsumes (cube_in latches cubes k) v
    given_covers k h =
        covers_at latches len are.size cubes small (k * len) (are.cube k h) b v sized is ∙ ap (λ (a : Cube). subsumes a v) (cube_at_lem latches are.size cubes k)

    -- and the search is the definition's: what it finds is covered, and where it finds nothing a constraint decides
    abbrev sought : ℕ
    sought = first n (λ k. covers_from len cubes (raised_bytes len 3 b) (k * len))

    same : sought ≡ first n (λ k. subsumes (cube_in latches cubes k) v)
    same = first_ext n _ (λ k. subsumes (cube_in latches cubes k) v) given_covers

    decides : Circuit → Found → Bool
    decides c f = elim f [ at k ↦ true | nowhere ↦ blocked c v ]

    module _ (c : Circuit) (o : Option ℕ) (e : FoundFirst n sought o) where
      pub found_inside : is_some o ≡ true → true ≡ covered c (cube_in latches cubes) n v
      unfolding covered decides
      found_inside h = let below = found_below o e h in sym (ap (decides c) ((search_first (cube_in latches cubes) v n).0 (rw same at below)))

      pub found_nowhere : is_some o ≡ false → {r : Bool} → r ≡ blocked c v → r ≡ covered c (cube_in latches cubes) n v
      unfolding covered decides
      found_nowhere h is = let beyond = found_beyond o e h in is ∙ sym (ap (decides c) ((search_first (cube_in latches cubes) v n).1 (rw same at beyond)))

-- Cubes one after the other in a buffer: where each stands, and what one more adds. Assumes nothing.
use mathlib.Core.Path.{◌≡◌, refl, sym, ap, ap₂, ◌∙◌}
use mathlib.Core.Bool.{Bool}
use mathlib.Core.List.{List, ◌++◌, append_assoc, append-nil, flatten}
use Prim.Native.Nat.{ℕ, zero, suc, ◌+◌, ◌*◌, ◌<◌, ◌≤◌}
use native.Mathlib.Nat.{zero-mul, suc-mul, mul-le-mul_right, le_of_suc-le-suc, not-suc-le-zero}
use native.Mathlib.Omega.{arith}
use lib.ListN.{length, get_or, take, drop, length-append, length-drop}
use lib.Seq.{paste, take_at, drop_at, drop-drop, take_all, get_or-take, get_or-drop}
use Rattle.three.specs.Lists.{tabulate, over}
use Rattle.three.specs.Value.{code, known}
use Rattle.three.specs.Cube.{Cube}
use Rattle.cubes.specs.Buffer.{cube_bytes, pack_cube, cube_in, pack_cubes}
use Rattle.cubes.specs.BufferInCode.{IsCube}
use Rattle.cubes.proofs.StoredCube.{cube_at_lem, cube_long, cube_read, cube_sound}
use Rattle.cubes.proofs.Raised.{Marked, packed_bytes}

-- where a cube stands
pub cube_place : (n len k size : ℕ) → k < n → n * len ≤ size → k * len + len ≤ size
cube_place n len k size h l = omega (arith, mul-le-mul_right len h, suc-mul k len)

-- ---- the records of cubes 0 to n − 1

module _ (size : ℕ) where
  abbrev len : ℕ
  len = cube_bytes size

  pub records_sized : (marks : ℕ → Bool) (cubes : ℕ → Cube) → ((k : ℕ) → length (cubes k) ≡ size) → (n : ℕ) → length (pack_cubes marks cubes n) ≡ n * len
  unfolding pack_cubes flatten tabulate
  records_sized marks cubes sized zero = rw zero-mul
  records_sized marks cubes sized (suc n) =
      rw (length-append, cube_long (marks 0) _ (sized 0)) (omega (arith, records_sized (λ k. marks (suc k)) (λ k. cubes (suc k)) (λ k. sized (suc k)) n, suc-mul n len))

  -- record number k
  pub record_at : (marks : ℕ → Bool) (cubes : ℕ → Cube) → ((k : ℕ) → length (cubes k) ≡ size) → (n k : ℕ) (rest : List ℕ) → k < n
      → take len (drop (k * len) (pack_cubes marks cubes n ++ rest)) ≡ pack_cube (marks k) (cubes k)
  unfolding pack_cubes flatten tabulate
  record_at marks cubes sized zero k rest h = absurd (not-suc-le-zero h)
  record_at marks cubes sized (suc n) zero rest h = rw (zero-mul, append_assoc) (take_at (pack_cube (marks 0) (cubes 0)) _ len (cube_long (marks 0) _ (sized 0)))
  record_at marks cubes sized (suc n) (suc k) rest h =
      let e : suc k * len ≡ len + k * len = omega (arith, suc-mul k len) in
      rw (e, append_assoc, ← drop-drop (k * len) len _, drop_at (pack_cube (marks 0) (cubes 0)) _ len (cube_long (marks 0) _ (sized 0)))
      (record_at (λ i. marks (suc i)) (λ i. cubes (suc i)) (λ i. sized (suc i)) n k rest (le_of_suc-le-suc h))

  -- one record more
  pub records_snoc : (marks : ℕ → Bool) (cubes : ℕ → Cube) (n : ℕ) → pack_cubes marks cubes (suc n) ≡ pack_cubes marks cubes n ++ pack_cube (marks n) (cubes n)
  unfolding pack_cubes flatten tabulate
  records_snoc marks cubes zero = append-nil (pack_cube (marks 0) (cubes 0))
  records_snoc marks cubes (suc n) =
      ap (λ l. pack_cube (marks 0) (cubes 0) ++ l) (records_snoc (λ k. marks (suc k)) (λ k. cubes (suc k)) n) ∙ sym (append_assoc (pack_cube (marks 0) (cubes 0)) _ _)

-- ---- a buffer that begins with them

-- a list stored behind what a buffer begins with
over_snoc : (s t d : List ℕ) (at n : ℕ) → length s ≡ at → length t ≡ n → at + n ≤ length d → paste (over s d) at t n ≡ over (s ++ t) d
unfolding over
over_snoc s t d at n es et h =
    let beyond : length s + n ≡ length (s ++ t) = omega (arith, length-append s t) in
    ap₂ (λ (x y : List ℕ). x ++ y)
    (ap₂ (λ (x y : List ℕ). x ++ y) (take_at s _ at es) (take_all n t (omega arith)))
    (sym (drop-drop n at (s ++ drop (length s) d)) ∙ ap (drop n) (drop_at s _ at es) ∙ drop-drop n (length s) d ∙ ap (λ (k : ℕ). drop k d) beyond)

module _ (size : ℕ) (marks : ℕ → Bool) (cubes : ℕ → Cube) (sized : (k : ℕ) → length (cubes k) ≡ size) (buffer : List ℕ) where
  pub stored_more : (n : ℕ) (bytes : List ℕ) → bytes ≡ pack_cube (marks n) (cubes n) → n * cube_bytes size + cube_bytes size ≤ length buffer
      → paste (over (pack_cubes marks cubes n) buffer) (n * cube_bytes size) bytes (cube_bytes size) ≡ over (pack_cubes marks cubes (suc n)) buffer
  stored_more n bytes e room =
      rw (records_snoc size marks cubes n, e)
      (over_snoc (pack_cubes marks cubes n) (pack_cube (marks n) (cubes n)) buffer _ _ (records_sized size marks cubes sized n) (cube_long (marks n) _ (sized n)) room)

  module _ (n k : ℕ) (h : k < n) where
    stored_record : take (cube_bytes size) (drop (k * cube_bytes size) (over (pack_cubes marks cubes n) buffer)) ≡ pack_cube (marks k) (cubes k)
    unfolding over
    stored_record = record_at size marks cubes sized n k _ h

    pub stored_cube : cube_in size (over (pack_cubes marks cubes n) buffer) k ≡ cubes k
    stored_cube = sym (cube_at_lem size refl _ k) ∙ cube_read (marks k) _ (sized k) _ stored_record

    pub stored_sound : n * cube_bytes size ≤ length buffer → IsCube size (drop (k * cube_bytes size) (over (pack_cubes marks cubes n) buffer))
    unfolding over
    stored_sound room =
        cube_sound (marks k) _ (sized k) _ stored_record
        (rw (length-drop, length-append, length-drop, records_sized size marks cubes sized n) (omega (arith, mul-le-mul_right (cube_bytes size) h, suc-mul k (cube_bytes size))))

    -- its bytes
    pub stored_bytes : Marked size (λ i. get_or (over (pack_cubes marks cubes n) buffer) (k * cube_bytes size + i) 0) (code (known (marks k))) (cubes k)
    stored_bytes i l =
        sym (get_or-drop (k * cube_bytes size) _ i 0) ∙ sym (get_or-take (cube_bytes size) _ i 0 l) ∙ ap (λ (x : List ℕ). get_or x i 0) stored_record ∙ packed_bytes (marks k) (cubes k) (sized k) i l

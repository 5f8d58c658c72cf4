-- The judge's second loop: cubes merged from j on, marks and latches, and that the settled record is what is behind the marks. Assumes nothing.
use mathlib.Core.Path.{◌≡◌, refl, sym, ap, ap₂, ◌∙◌}
use mathlib.Core.List.{List, ◌++◌}
use Prim.Native.Nat.{ℕ, zero, suc, ◌+◌, ◌*◌, ◌-◌, ◌<◌, ◌≤◌}
use native.Mathlib.Omega.{arith}
use lib.ListN.{length, get_or, take, drop, replicate, length-replicate}
use lib.Seq.{get_or-drop}
use Rattle.three.specs.Lists.{over}
use Rattle.three.specs.Value.{unknown}
use Rattle.three.specs.Cube.{merged}
use Rattle.three.specs.Record.{pack, unpack}
use Rattle.three.specs.RecordInCode.{IsRecord}
use Rattle.three.proofs.Pack.{length_pack, length_unpack, unpack_over}
use Rattle.three.proofs.Soundness.{record_over}
use Rattle.cubes.specs.Run.{merge_from}
use Rattle.cubes.specs.Buffer.{cube_bytes, cube_of, cube_in}
use Rattle.cubes.proofs.StoredCube.{cube_bytes_lem, cube_fields, cube_dropped, cube_record as is_record, cube_repacked}
use Rattle.cubes.proofs.Storing.{cube_place}
use Rattle.judge.specs.JudgeInCode.{Settleable, fields_in, merged_fields, settled_from}
use Rattle.stored.proofs.Reaching.{part_tail}
use Rattle.cubes.proofs.Merging.{Merged, merged_first, merged_next, merged_last, merge_behind}
use Rattle.cubes.proofs.Wider.{merge_from_sized}

module _ (latches : ℕ) (cubes : List ℕ) where
  pub fields_sized : (k : ℕ) → length (fields_in latches cubes k) ≡ suc latches
  unfolding fields_in
  fields_sized k = length_unpack (suc latches) _

  -- the loop's invariant, from what the buffer held where it begins
  abbrev pub Settled : ℕ → List ℕ → List ℕ → ℕ → Type 0
  Settled j begun e k = Merged (suc latches) (fields_in latches cubes) fields_sized j begun e k

  merged_sized : (n j : ℕ) → length (merged_fields latches cubes n j) ≡ suc latches
  unfolding merged_fields
  merged_sized n j = merge_from_sized _ _ (suc latches) fields_sized j (length-replicate (suc latches) unknown) (n - j)

  -- the merge of the latches is what is behind the merge of the marks
  merged_settled : (n j : ℕ) → drop 1 (merged_fields latches cubes n j) ≡ settled_from latches cubes n j
  merged_settled n j = unfold merged_fields settled_from in go (n - j)
    where
      go : (count : ℕ) → drop 1 (merge_from (replicate (suc latches) unknown) (fields_in latches cubes) j count) ≡ merge_from (replicate latches unknown) (cube_in latches cubes) j count
      go zero = unfold merge_from in refl
      go (suc more) = unfold merge_from cube_in cube_of fields_in in merge_behind (fields_in latches cubes) j more

  module _ (n j : ℕ) (d : List ℕ) {common : List ℕ} (left : common ≡ over (pack (merged_fields latches cubes n j)) d) where
    pub common_record : cube_bytes latches ≤ length d → IsRecord (suc latches) common
    common_record room = rw left (record_over (suc latches) _ d (merged_sized n j) (rw (← cube_bytes_lem latches) room))

    pub common_settled : cube_of latches common ≡ settled_from latches cubes n j
    common_settled =
        sym (cube_dropped latches common)
        ∙ ap (drop 1) (ap (unpack (suc latches)) left ∙ unpack_over (suc latches) (merged_fields latches cubes n j) d (merged_sized n j))
        ∙ merged_settled n j

module _ (latches len n j : ℕ) (cubes : List ℕ) (s : Settleable latches len n j cubes) where
  pub latch_place : (k : ℕ) → k < n → k * len + len ≤ length cubes
  latch_place k h = cube_place n len k (length cubes) h s.fits

  pub cube_record : (k : ℕ) → k < n → IsRecord (suc latches) (take (length cubes - k * len) (drop (k * len) cubes))
  cube_record k h = rw part_tail (is_record _ _ (s.cube k h))

  fields_at : (k : ℕ) → unpack (suc latches) (drop (k * len) cubes) ≡ fields_in latches cubes k
  unfolding fields_in
  fields_at k = ap (λ (m : ℕ). unpack (suc latches) (drop (k * m) cubes)) s.size

  pub settled_next : {begun e e' : List ℕ} {k : ℕ} → Settled latches cubes j begun e k
      → e' ≡ over (pack (merged (unpack (suc latches) e) (unpack (suc latches) (take (length cubes - k * len) (drop (k * len) cubes))))) e → Settled latches cubes j begun e' (k + 1)
  settled_next {k = k} m ee = merged_next _ _ _ _ _ m (rw part_tail (fields_at k)) ee

  module _ (entry : List ℕ) (room : cube_bytes latches ≤ length entry) (small : (i : ℕ) → get_or cubes i 0 < 256) {front : List ℕ} (copied : front ≡ take len (take (length cubes - j * len) (drop (j * len) cubes))) where
    abbrev begun : List ℕ
    begun = front ++ drop len entry

    latches_begun : begun ≡ over (pack (fields_in latches cubes j)) entry
    unfolding over
    latches_begun =
        let first : front ≡ pack (fields_in latches cubes j) =
        rw part_tail at copied
        ∙ ap (λ (m : ℕ). take m (drop (j * len) cubes)) s.size
        ∙ cube_repacked latches (drop (j * len) cubes) (is_record _ _ (s.cube j s.below)) (λ i. rw get_or-drop (small (j * len + i)))
        ∙ ap pack (sym (cube_fields latches (drop (j * len) cubes)) ∙ fields_at j) in
        let rest : len ≡ length (pack (fields_in latches cubes j)) = rw (length_pack, fields_sized latches cubes j) (omega (arith, s.size, cube_bytes_lem latches)) in
        ap₂ (λ (x : List ℕ) (m : ℕ). x ++ drop m entry) first rest

    pub settled_first : Settled latches cubes j begun begun (j + 1)
    settled_first = merged_first _ _ _ _ _ entry (rw (← cube_bytes_lem latches) room) latches_begun

    pub settled_last : {e : List ℕ} {k : ℕ} → Settled latches cubes j begun e k → k ≡ n → e ≡ over (pack (merged_fields latches cubes n j)) entry
    unfolding merged_fields
    settled_last m h = merged_last _ _ _ _ _ entry (rw (← cube_bytes_lem latches) room) latches_begun (replicate (suc latches) unknown) n m h

-- What an accepted merge leaves: the record of the merged cube, and so the narrowest single cube that covers both. Assumes nothing.
use mathlib.Core.Path.{◌≡◌, sym, ap, ◌∙◌}
use mathlib.Core.List.{List}
use Prim.Native.Nat.{ℕ}
use lib.ListN.{length, take}
use Rattle.three.specs.Lists.{over}
use Rattle.three.specs.Cube.{merged as merged_cubes}
use Rattle.three.specs.Record.{bytes_for, pack, unpack}
use Rattle.three.specs.RecordInCode.{IsRecord}
use Rattle.three.proofs.Pack.{length_unpack, take_over, unpack_over}
use Rattle.three.proofs.Soundness.{record_over}
use Rattle.three.proofs.Merge.{length_merged, merged_covers_left, merged_covers_right, merged_narrowest}
use Rattle.circuit.specs.Refusal.{refusal}
use Rattle.circuit.proofs.Refusals.{refused_old, accepted_new}
use Rattle.merging.specs.Call.{merge_tests, MergeGiven, merged_fields, Merging}
use Rattle.merging.specs.Promise.{cube_in, Narrowest}
use Rattle.merging.proofs.Refusing.{Mergeable, accepted}

module _ (g : MergeGiven) where
  merged_sized : length (merged_fields g) ≡ g.fields
  unfolding merged_fields
  merged_sized = length_merged _ _ ∙ length_unpack g.fields g.a

  -- ---- refused, and accepted

  pub refused : {k : ℕ} → k ≡ refusal (merge_tests g.fields g.a g.b (length g.merged)) → (k ≡ 0 → ⊥) → Merging g k g.merged
  refused {k} e h = record { answers = e; fills = refused_old k _ _ h }

  pub done : {k : ℕ} → k ≡ refusal (merge_tests g.fields g.a g.b (length g.merged)) → k ≡ 0
      → {merged : List ℕ} → merged ≡ over (pack (merged_cubes (unpack g.fields g.a) (unpack g.fields g.b))) g.merged → Merging g k merged
  unfolding merged_fields
  done {k} e z same = record { answers = e; fills = same ∙ accepted_new k _ _ z }

  module _ {number : ℕ} {merged : List ℕ} (m : Merging g number merged) (z : number ≡ 0) where
    pub mergeable : Mergeable g.fields g.a g.b (length g.merged)
    mergeable = accepted g.fields g.a g.b (length g.merged) (sym z ∙ m.answers)

    pub filled : merged ≡ over (pack (merged_fields g)) g.merged
    filled = m.fills ∙ sym (accepted_new number _ _ z)

    -- its cube, and its bytes
    pub cube_left : unpack g.fields merged ≡ merged_fields g
    cube_left = ap (unpack g.fields) filled ∙ unpack_over g.fields (merged_fields g) g.merged merged_sized

    pub bytes_left : take (bytes_for g.fields) merged ≡ pack (merged_fields g)
    bytes_left = ap (take (bytes_for g.fields)) filled ∙ take_over g.fields (merged_fields g) g.merged merged_sized

    -- it is a record that may be given again
    pub record_left : IsRecord g.fields merged
    record_left = rw filled (record_over g.fields (merged_fields g) g.merged merged_sized mergeable.room)

  pub promises : (number : ℕ) (merged : List ℕ) → Merging g number merged → Narrowest g number merged
  unfolding cube_in merged_fields
  promises number merged m =
      let sized = length_unpack g.fields g.a ∙ sym (length_unpack g.fields g.b) in
      record {
        covers_a = λ z. rw (cube_left m z) (merged_covers_left _ _);
        covers_b = λ z. rw (cube_left m z) (merged_covers_right _ _ sized);
        narrowest = λ z c over_a over_b. rw (cube_left m z) (merged_narrowest c _ _ over_a over_b);
      }

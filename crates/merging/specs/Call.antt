-- The call `merge` (specification, 2.9): its refusals in order, and what it leaves. Assumes nothing.
use Rattle.std.specs.Prelude.{◌≡◌, List, [], ◌∷◌, ℕ, leb, length}
use Rattle.three.specs.Lists.{over}
use Rattle.three.specs.Cube.{Cube, merged as merged_cubes}
use Rattle.three.specs.Record.{bytes_for, pack, unpack, sound}
use Rattle.circuit.specs.Refusal.{Test, ◌or◌, refusal, left_by}

-- 3 for the fields, 10 for each given record, 14 for each, 10 for the result, by its length
unfoldable pub merge_tests : ℕ → List ℕ → List ℕ → ℕ → List Test
merge_tests f a b merged =
    leb f 512 or 3 ∷ leb (bytes_for f) (length a) or 10 ∷ leb (bytes_for f) (length b) or 10 ∷ sound f a or 14 ∷ sound f b or 14 ∷ leb (bytes_for f) merged or 10 ∷ []

-- What the call is given: the count of fields, two records, and the result's buffer as it is lent
pub record MergeGiven : Type 0 where
  pub fields : ℕ
  pub a : List ℕ
  pub b : List ℕ
  pub merged : List ℕ

module _ (g : MergeGiven) where
  -- "known where both agree": the merge of two cubes (specification, 2.6)
  unfoldable pub merged_fields : Cube
  merged_fields = merged_cubes (unpack g.fields g.a) (unpack g.fields g.b)

-- The contract: its number, and every byte of the result's buffer at exit, which a refusal leaves as it was
pub record Merging (g : MergeGiven) (number : ℕ) (merged : List ℕ) : Type 0 where
  pub answers : number ≡ refusal (merge_tests g.fields g.a g.b (length g.merged))
  pub fills : merged ≡ left_by number (over (pack (merged_fields g)) g.merged) g.merged

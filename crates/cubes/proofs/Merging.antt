-- A loop that merges one record after another into a buffer: it has merged those from `base` up to, not including, k. Assumes nothing.
use mathlib.Core.Path.{◌≡◌, refl, sym, ap, ap₂, ◌∙◌}
use mathlib.Core.List.{List, [], ◌∷◌, ◌++◌}
use Prim.Native.Nat.{ℕ, zero, suc, ◌+◌, ◌-◌, ◌≤◌}
use native.Mathlib.Omega.{arith}
use lib.ListN.{length, drop, length-append, length-drop}
use lib.Seq.{drop-drop, drop-append-add}
use Rattle.three.specs.Lists.{adjust, over}
use Rattle.three.specs.Cube.{Cube, merged}
use Rattle.three.specs.Record.{bytes_for, pack, unpack}
use Rattle.three.specs.RecordInCode.{IsRecord}
use Rattle.three.proofs.Pack.{length_pack, unpack_over}
use Rattle.three.proofs.Soundness.{record_over}
use Rattle.cubes.specs.Run.{merge, merge_from}
use Rattle.cubes.proofs.Wider.{merge_sized}

-- what is written over a buffer hides what was written there before
pub over_over : (s t d : List ℕ) → length s ≤ length t → over t (over s d) ≡ over t d
unfolding over
over_over s t d h =
    let e : length t ≡ length s + (length t - length s) = omega arith in
    let f : length s + (length t - length s) ≡ length t = omega arith in
    ap (λ (l : List ℕ). t ++ l)
    (ap (λ (n : ℕ). drop n (s ++ drop (length s) d)) e
    ∙ drop-append-add s (drop (length s) d) (length t - length s)
    ∙ drop-drop (length t - length s) (length s) d
    ∙ ap (λ (n : ℕ). drop n d) f)

pub length_over : (s d : List ℕ) → length s ≤ length d → length (over s d) ≡ length d
unfolding over
length_over s d h = rw (length-append, length-drop) (omega arith)

-- f base to f (k − 1) are merged into a buffer that held d where the loop began
module _ (size : ℕ) (f : ℕ → Cube) (sized : (k : ℕ) → length (f k) ≡ size) (base : ℕ) (d : List ℕ) where
  pub record Merged (e : List ℕ) (k : ℕ) : Type 0 where
    pub more : ℕ
    pub place : k ≡ base + suc more
    pub room : bytes_for size ≤ length d
    pub same : e ≡ over (pack (merge f base more)) d

  pack_merged : (more : ℕ) → length (pack (merge f base more)) ≡ bytes_for size
  pack_merged more = rw (length_pack, merge_sized f size sized base more)

  pub merged_record : {e : List ℕ} {k : ℕ} → Merged e k → IsRecord size e
  merged_record m = rw m.same (record_over size (merge f base m.more) d (merge_sized f size sized base m.more) m.room)

  pub merged_length : {e : List ℕ} {k : ℕ} → Merged e k → length e ≡ length d
  merged_length m = ap length m.same ∙ length_over _ d (omega (arith, pack_merged m.more, m.room))

  pub merged_next : {e e' : List ℕ} {k : ℕ} {x : Cube} → Merged e k → x ≡ f k → e' ≡ over (pack (merged (unpack size e) x)) e → Merged e' (k + 1)
  unfolding merge
  merged_next {e} {e'} {k} {x} m ex ee = record {
    more = suc m.more;
    place = omega (arith, m.place);
    room = m.room;
    same =
        let whole : unpack size e ≡ merge f base m.more = rw m.same (unpack_over size (merge f base m.more) d (merge_sized f size sized base m.more)) in
        let both : merged (unpack size e) x ≡ merge f base (suc m.more) = ap₂ merged whole (ex ∙ ap f m.place) in
        ee ∙ ap₂ (λ (v : Cube) (l : List ℕ). over (pack v) l) both m.same
        ∙ over_over (pack (merge f base m.more)) (pack (merge f base (suc m.more))) d (omega (arith, pack_merged m.more, pack_merged (suc m.more)));
  }

  -- f base was put there first, over what was lent
  module _ (entry : List ℕ) (fits : bytes_for size ≤ length entry) (begun : d ≡ over (pack (f base)) entry) where
    first_long : length (pack (f base)) ≡ bytes_for size
    first_long = rw (length_pack, sized base)

    pub merged_first : Merged d (base + 1)
    unfolding merge
    merged_first = record {
      more = 0;
      place = refl;
      room = omega (arith, ap length begun ∙ length_over _ entry (omega (arith, first_long)));
      same = begun ∙ sym (ap (over (pack (f base))) begun ∙ over_over _ _ entry (omega arith));
    }

    pub merged_last : (none : Cube) {e : List ℕ} {k : ℕ} (n : ℕ) → Merged e k → k ≡ n → e ≡ over (pack (merge_from none f base (n - base))) entry
    unfolding merge_from
    merged_last none n m h =
        let all : suc m.more ≡ n - base = omega (arith, m.place) in
        m.same ∙ ap (over (pack (merge f base m.more))) begun ∙ over_over (pack (f base)) _ entry (omega (arith, first_long, pack_merged m.more))
        ∙ ap (λ (count : ℕ). over (pack (merge_from none f base count)) entry) all

-- ---- marks left off: the merge of what is behind the first field

merged_behind : (a b : Cube) → drop 1 (merged a b) ≡ merged (drop 1 a) (drop 1 b)
unfolding merged adjust
merged_behind [] b = refl
merged_behind (x ∷ []) [] = refl
merged_behind (x ∷ y ∷ a) [] = refl
merged_behind (x ∷ a) (y ∷ b) = refl

pub merge_behind : (f : ℕ → Cube) (base more : ℕ) → drop 1 (merge f base more) ≡ merge (λ k. drop 1 (f k)) base more
unfolding merge
merge_behind f base zero = refl
merge_behind f base (suc more) = merged_behind _ _ ∙ ap (λ (v : Cube). merged v (drop 1 (f (base + suc more)))) (merge_behind f base more)

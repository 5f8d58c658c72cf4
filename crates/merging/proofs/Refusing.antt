-- The refusals of a merge in order, and what holds where none is given. Assumes nothing.
use mathlib.Core.Path.{◌≡◌, refl}
use mathlib.Core.Bool.{Bool, true, false}
use mathlib.Core.List.{List, [], ◌∷◌}
use Prim.Native.Nat.{ℕ, ◌<◌, ◌≤◌}
use native.Mathlib.Omega.{arith}
use borrow.Author.Tests.{leb-true, le-leb, lt-leb}
use lib.Dec.{leb}
use lib.ListN.{length}
use Rattle.three.specs.Record.{bytes_for, sound}
use Rattle.three.specs.RecordInCode.{IsRecord}
use Rattle.circuit.specs.Refusal.{◌or◌, refusal}
use Rattle.circuit.proofs.Refusals.{Numbered, stops, past, none, passes}
use Rattle.merging.specs.Call.{merge_tests}

-- what holds where nothing is refused
pub record Mergeable (f : ℕ) (a b : List ℕ) (merged : ℕ) : Type 0 where
  pub few : f ≤ 512
  pub first : IsRecord f a
  pub second : IsRecord f b
  pub room : bytes_for f ≤ merged

module _ (f : ℕ) (a b : List ℕ) (merged : ℕ) where
  pub many_fields : 512 < f → 3 ≡ refusal (merge_tests f a b merged)
  unfolding merge_tests
  many_fields h = stops _ _ (lt-leb f 512 h)

  module _ (few : f ≤ 512) where
    pub a_short : length a < bytes_for f → 10 ≡ refusal (merge_tests f a b merged)
    unfolding merge_tests
    a_short h = past _ _ (le-leb f 512 few) (stops _ _ (lt-leb (bytes_for f) (length a) h))

    module _ (a_fits : bytes_for f ≤ length a) where
      pub b_short : length b < bytes_for f → 10 ≡ refusal (merge_tests f a b merged)
      unfolding merge_tests
      b_short h = past _ _ (le-leb f 512 few) (past _ _ (le-leb (bytes_for f) (length a) a_fits) (stops _ _ (lt-leb (bytes_for f) (length b) h)))

      module _ (b_fits : bytes_for f ≤ length b) where
        pub a_bad : sound f a ≡ false → 14 ≡ refusal (merge_tests f a b merged)
        unfolding merge_tests
        a_bad h = past _ _ (le-leb f 512 few) (past _ _ (le-leb (bytes_for f) (length a) a_fits) (past _ _ (le-leb (bytes_for f) (length b) b_fits) (stops _ _ h)))

        pub b_bad : sound f a ≡ true → sound f b ≡ false → 14 ≡ refusal (merge_tests f a b merged)
        unfolding merge_tests
        b_bad s h = past _ _ (le-leb f 512 few) (past _ _ (le-leb (bytes_for f) (length a) a_fits) (past _ _ (le-leb (bytes_for f) (length b) b_fits) (past _ _ s (stops _ _ h))))

  -- behind the given records the result's length decides
  pub room_decides : f ≤ 512 → IsRecord f a → IsRecord f b → {k : ℕ} → k ≡ refusal (leb (bytes_for f) merged or 10 ∷ []) → k ≡ refusal (merge_tests f a b merged)
  unfolding merge_tests
  room_decides few ra rb e =
      past _ _ (le-leb f 512 few) (past _ _ (le-leb (bytes_for f) (length a) ra.fits) (past _ _ (le-leb (bytes_for f) (length b) rb.fits) (past _ _ ra.good (past _ _ rb.good e))))

  module _ (few : f ≤ 512) (ra : IsRecord f a) (rb : IsRecord f b) where
    pub merged_short : merged < bytes_for f → 10 ≡ refusal (merge_tests f a b merged)
    merged_short h = room_decides few ra rb (stops _ _ (lt-leb (bytes_for f) merged h))

    pub merge_passes : bytes_for f ≤ merged → 0 ≡ refusal (merge_tests f a b merged)
    merge_passes h = room_decides few ra rb (past _ _ (le-leb (bytes_for f) merged h) none)

  numbered : Numbered (merge_tests f a b merged)
  unfolding merge_tests
  numbered = omega arith

  pub accepted : 0 ≡ refusal (merge_tests f a b merged) → Mergeable f a b merged
  unfolding merge_tests
  accepted e =
      let p = passes (merge_tests f a b merged) numbered e in
      record {
        few = leb-true f 512 p.0;
        first = record { fits = leb-true (bytes_for f) (length a) p.1.0; good = p.1.1.1.0 };
        second = record { fits = leb-true (bytes_for f) (length b) p.1.1.0; good = p.1.1.1.1.0 };
        room = leb-true (bytes_for f) merged p.1.1.1.1.1.0;
      }

-- both records are judged by 10, and then by 14, so which comes first makes no difference
swapped : (p a b c d q : Bool) → refusal (p or 3 ∷ a or 10 ∷ b or 10 ∷ c or 14 ∷ d or 14 ∷ q or 10 ∷ []) ≡ refusal (p or 3 ∷ b or 10 ∷ a or 10 ∷ d or 14 ∷ c or 14 ∷ q or 10 ∷ [])
unfolding refusal
swapped false a b c d q = refl
swapped true false false c d q = refl
swapped true false true c d q = refl
swapped true true false c d q = refl
swapped true true true false false q = refl
swapped true true true false true q = refl
swapped true true true true false q = refl
swapped true true true true true q = refl

pub tests_swapped : (f : ℕ) (a b : List ℕ) (merged : ℕ) → refusal (merge_tests f a b merged) ≡ refusal (merge_tests f b a merged)
unfolding merge_tests
tests_swapped f a b merged = swapped (leb f 512) (leb (bytes_for f) (length a)) (leb (bytes_for f) (length b)) (sound f a) (sound f b) (leb (bytes_for f) merged)

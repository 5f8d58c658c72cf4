-- "A teacher merges results of several runs, in no set order": whatever the order, the grouping and the repetitions, calls that merge the same records leave the same bytes.
-- For each leaves the narrowest cube that covers all of its records. Assumes nothing.
use mathlib.Core.Path.{◌≡◌, refl, sym, ap, ◌∙◌}
use mathlib.Core.Bool.{true}
use mathlib.Core.Logic.{◌⊎◌, inl, inr}
use mathlib.Core.List.{List, [], ◌∷◌, ◌++◌}
use Prim.Native.Nat.{ℕ, ◌<◌}
use lib.ListN.{get_or, take}
use Rattle.three.specs.Cube.{Cube, subsumes}
use Rattle.three.specs.Record.{bytes_for, pack, unpack}
use Rattle.three.specs.RecordInCode.{IsRecord}
use Rattle.three.proofs.Soundness.{pack_unpack}
use Rattle.three.proofs.Merge.{subsumes_self}
use Rattle.three.proofs.Subsuming.{subsumes_trans, subsumes_both}
use Rattle.merging.specs.Call.{Merging}
use Rattle.merging.specs.Promise.{cube_in}
use Rattle.merging.proofs.Left.{promises, cube_left, bytes_left}
use Rattle.merging.proofs.Laws.{call}

-- bytes that accepted calls leave, from these records: a record as it is given, or two of such merged
pub data Week (f : ℕ) : List (List ℕ) → List ℕ → Type 0 where
  given : {a : List ℕ} → IsRecord f a → ((i : ℕ) → get_or a i 0 < 256) → Week f (a ∷ []) a
  both : {xs ys : List (List ℕ)} {a b out m : List ℕ} → Week f xs a → Week f ys b → Merging (call f a b out) 0 m → Week f (xs ++ ys) m

-- x is one of these
abbrev pub Among : List ℕ → List (List ℕ) → Type 0
Among x [] = ⊥
Among x (y ∷ ys) = (x ≡ y) ⊎ Among x ys

either : {A B C : Type 0} → A ⊎ B → (A → C) → (B → C) → C
either (inl a) f g = f a
either (inr b) f g = g b

among_parts : (x : List ℕ) (xs ys : List (List ℕ)) → Among x (xs ++ ys) → Among x xs ⊎ Among x ys
among_parts x [] ys q = inr q
among_parts x (y ∷ xs) ys (inl e) = inl (inl e)
among_parts x (y ∷ xs) ys (inr q) = either (among_parts x xs ys q) (λ p. inl (inr p)) (λ p. inr p)

among_first : (x : List ℕ) (xs ys : List (List ℕ)) → Among x xs → Among x (xs ++ ys)
among_first x [] ys q = absurd q
among_first x (y ∷ xs) ys (inl e) = inl e
among_first x (y ∷ xs) ys (inr q) = inr (among_first x xs ys q)

among_second : (x : List ℕ) (xs ys : List (List ℕ)) → Among x ys → Among x (xs ++ ys)
among_second x [] ys q = q
among_second x (y ∷ xs) ys q = inr (among_second x xs ys q)

module _ (f : ℕ) where
  -- what is left covers each of the records
  pub week_covers : (xs : List (List ℕ)) (m : List ℕ) → Week f xs m → (x : List ℕ) → Among x xs → subsumes (unpack f m) (unpack f x) ≡ true
  unfolding cube_in
  week_covers xs m (given r small) x (inl e) = rw e (subsumes_self _)
  week_covers xs m (given r small) x (inr q) = absurd q
  week_covers xs m (both {xs = us} {ys = vs} {a = a} {b = b} {out = out} wa wb merged) x q =
      either (among_parts x us vs q)
      (λ p. subsumes_trans _ _ _ ((promises (call f a b out) 0 m merged).covers_a refl) (week_covers us a wa x p))
      (λ p. subsumes_trans _ _ _ ((promises (call f a b out) 0 m merged).covers_b refl) (week_covers vs b wb x p))

  -- and any cube that covers each of them covers it
  pub week_narrowest : (xs : List (List ℕ)) (m : List ℕ) → Week f xs m → (c : Cube) → ((x : List ℕ) → Among x xs → subsumes c (unpack f x) ≡ true) → subsumes c (unpack f m) ≡ true
  unfolding cube_in
  week_narrowest xs m (given r small) c over = over _ (inl refl)
  week_narrowest xs m (both {xs = us} {ys = vs} {a = a} {b = b} {out = out} wa wb merged) c over =
      (promises (call f a b out) 0 m merged).narrowest refl c
      (week_narrowest us a wa c (λ x p. over x (among_first x us vs p)))
      (week_narrowest vs b wb c (λ x p. over x (among_second x us vs p)))

  -- its bytes are those of its cube
  week_bytes : (xs : List (List ℕ)) (m : List ℕ) → Week f xs m → take (bytes_for f) m ≡ pack (unpack f m)
  week_bytes xs m (given r small) = sym (pack_unpack f m r.fits small r.good)
  week_bytes xs m (both {a = a} {b = b} {out = out} wa wb merged) = bytes_left (call f a b out) merged refl ∙ ap pack (sym (cube_left (call f a b out) merged refl))

  pub any_order : (xs ys : List (List ℕ)) (m m' : List ℕ) → Week f xs m → Week f ys m'
      → ((x : List ℕ) → Among x xs → Among x ys) → ((y : List ℕ) → Among y ys → Among y xs) → take (bytes_for f) m ≡ take (bytes_for f) m'
  any_order xs ys m m' w w' there back =
      week_bytes xs m w
      ∙ ap pack (subsumes_both _ _
      (week_narrowest ys m' w' _ (λ x p. week_covers xs m w x (back x p)))
      (week_narrowest xs m w _ (λ x p. week_covers ys m' w' x (there x p))))
      ∙ sym (week_bytes ys m' w')

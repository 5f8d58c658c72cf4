-- Laws of the merge of two records, on fields and on cubes: order, grouping and repetition do not matter, and it is the narrowest cover of both. Assumes nothing.
use mathlib.Core.Path.{◌≡◌, refl, sym, ap, ap₂, ◌∙◌}
use mathlib.Core.Bool.{true, ◌&&◌, false≢true}
use mathlib.Core.List.{[], ◌∷◌}
use Prim.Native.Nat.{ℕ, zero, suc}
use native.Mathlib.Omega.{arith}
use lib.ListN.{length, get_or, replicate}
use Rattle.three.specs.Lists.{every, adjust}
use Rattle.three.specs.Value.{unknown}
use Rattle.three.specs.Cube.{Cube, allows, subsumes, agree, merged}
use Rattle.three.proofs.Lists.{and_parts, length_adjust}
use Rattle.three.proofs.Fields.{agree_same, agree_order, agree_grouping, agree_unknown, allows_self, allows_keeps, allows_agree}

-- ---- cubes

pub get_or_merged : (a b : Cube) → length a ≡ length b → (i : ℕ) → get_or (merged a b) i unknown ≡ agree (get_or a i unknown) (get_or b i unknown)
unfolding merged adjust
get_or_merged [] [] e i = sym (agree_same unknown)
get_or_merged [] (y ∷ b) e i = absurd (omega arith)
get_or_merged (x ∷ a) [] e i = absurd (omega arith)
get_or_merged (x ∷ a) (y ∷ b) e zero = refl
get_or_merged (x ∷ a) (y ∷ b) e (suc i) = get_or_merged a b (omega arith) i

pub length_merged : (a b : Cube) → length (merged a b) ≡ length a
unfolding merged
length_merged a b = length_adjust agree a b

pub merged_order : (a b : Cube) → length a ≡ length b → merged a b ≡ merged b a
unfolding merged adjust
merged_order [] [] e = refl
merged_order [] (y ∷ b) e = absurd (omega arith)
merged_order (x ∷ a) [] e = absurd (omega arith)
merged_order (x ∷ a) (y ∷ b) e = ap₂ (λ v vs. v ∷ vs) (agree_order x y) (merged_order a b (omega arith))

pub merged_grouping : (a b c : Cube) → length a ≡ length b → merged (merged a b) c ≡ merged a (merged b c)
unfolding merged adjust
merged_grouping [] b c e = refl
merged_grouping (x ∷ a) [] c e = absurd (omega arith)
merged_grouping (x ∷ a) (y ∷ b) [] e = refl
merged_grouping (x ∷ a) (y ∷ b) (z ∷ c) e = ap₂ (λ v vs. v ∷ vs) (agree_grouping x y z) (merged_grouping a b c (omega arith))

pub merged_same : (a : Cube) → merged a a ≡ a
unfolding merged adjust
merged_same [] = refl
merged_same (x ∷ a) = ap₂ (λ v vs. v ∷ vs) (agree_same x) (merged_same a)

-- an all-X cube swallows everything
pub merged_blank : (n : ℕ) (b : Cube) → merged (replicate n unknown) b ≡ replicate n unknown
unfolding merged adjust
merged_blank zero b = refl
merged_blank (suc n) [] = refl
merged_blank (suc n) (y ∷ b) = ap₂ (λ v vs. v ∷ vs) (agree_unknown y) (merged_blank n b)

-- ---- the narrowest cover

pub subsumes_every : (c b : Cube) → length c ≡ length b → subsumes c b ≡ every (length c) (λ i. allows (get_or c i unknown) (get_or b i unknown))
unfolding subsumes every
subsumes_every [] [] e = refl
subsumes_every [] (y ∷ b) e = absurd (omega arith)
subsumes_every (x ∷ c) [] e = absurd (omega arith)
subsumes_every (x ∷ c) (y ∷ b) e = ap (λ t. allows x y && t) (subsumes_every c b (omega arith))

pub subsumes_length : (c b : Cube) → subsumes c b ≡ true → length c ≡ length b
unfolding subsumes
subsumes_length [] [] e = refl
subsumes_length [] (y ∷ b) e = absurd (false≢true e)
subsumes_length (x ∷ c) [] e = absurd (false≢true e)
subsumes_length (x ∷ c) (y ∷ b) e = ap suc (subsumes_length c b (and_parts (allows x y) (subsumes c b) e).1)

pub subsumes_self : (c : Cube) → subsumes c c ≡ true
unfolding subsumes
subsumes_self [] = refl
subsumes_self (x ∷ c) = rw (allows_self x) (subsumes_self c)

-- a stored cube that subsumes b is what it has in common with b
pub subsumes_keeps : (c b : Cube) → subsumes c b ≡ true → merged c b ≡ c
unfolding subsumes merged adjust
subsumes_keeps [] b e = refl
subsumes_keeps (x ∷ c) [] e = refl
subsumes_keeps (x ∷ c) (y ∷ b) e =
    let parts = and_parts (allows x y) (subsumes c b) e in
    ap₂ (λ v vs. v ∷ vs) (allows_keeps x y parts.0) (subsumes_keeps c b parts.1)

pub merged_covers_left : (a b : Cube) → subsumes (merged a b) a ≡ true
unfolding subsumes merged adjust
merged_covers_left [] b = refl
merged_covers_left (x ∷ a) [] = subsumes_self (x ∷ a)
merged_covers_left (x ∷ a) (y ∷ b) = rw (allows_agree x y) (merged_covers_left a b)

pub merged_covers_right : (a b : Cube) → length a ≡ length b → subsumes (merged a b) b ≡ true
merged_covers_right a b e = rw (merged_order a b e) (merged_covers_left b a)

-- so a cube that is what it has in common with b subsumes b
pub keeps_subsumes : (c b : Cube) → length c ≡ length b → merged c b ≡ c → subsumes c b ≡ true
keeps_subsumes c b e kept = rw kept at (merged_covers_right c b e)

pub merged_narrowest : (c a b : Cube) → subsumes c a ≡ true → subsumes c b ≡ true → subsumes c (merged a b) ≡ true
merged_narrowest c a b over_a over_b =
    let long : length c ≡ length a = subsumes_length c a over_a in
    keeps_subsumes c (merged a b) (long ∙ sym (length_merged a b))
    (sym (merged_grouping c a b long) ∙ ap (λ v. merged v b) (subsumes_keeps c a over_a) ∙ subsumes_keeps c b over_b)

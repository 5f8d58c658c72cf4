-- Subsumption field by field: the wider of two cubes is the other, or knows fewer fields. Assumes nothing.
use mathlib.Core.Path.{◌≡◌, refl, sym, ap, ap₂, ◌∙◌}
use mathlib.Core.Bool.{true}
use mathlib.Core.List.{◌∷◌}
use mathlib.Core.Logic.{◌⊎◌, inl, inr}
use Prim.Native.Nat.{◌<◌}
use native.Mathlib.Omega.{arith}
use Rattle.three.specs.Lists.{Each, empty, also}
use Rattle.three.specs.Value.{Three, unknown, low, high, code}
use Rattle.three.specs.Cube.{Cube, alike, allows, subsumes, known_fields, merged}
use Rattle.three.proofs.Fields.{alike_same}
use Rattle.three.proofs.Merge.{merged_order, merged_grouping, subsumes_length, subsumes_keeps, keeps_subsumes}
use Rattle.three.proofs.Counting.{count, known_cons}

pub subsumes_trans : (a b c : Cube) → subsumes a b ≡ true → subsumes b c ≡ true → subsumes a c ≡ true
subsumes_trans a b c h g =
    let long = subsumes_length a b h in
    keeps_subsumes a c (long ∙ subsumes_length b c g)
    (ap (λ v. merged v c) (sym (subsumes_keeps a b h)) ∙ merged_grouping a b c long ∙ ap (merged a) (subsumes_keeps b c g) ∙ subsumes_keeps a b h)

-- cubes that subsume each other are one
pub subsumes_both : (a b : Cube) → subsumes a b ≡ true → subsumes b a ≡ true → a ≡ b
subsumes_both a b h g = sym (subsumes_keeps a b h) ∙ merged_order a b (subsumes_length a b h) ∙ subsumes_keeps b a g

-- a field is X, or the other
abbrev pub Wider : Three → Three → Type 0
Wider a b = allows a b ≡ true

pub each_subsumes : {a b : Cube} → Each Wider a b → subsumes a b ≡ true
unfolding subsumes
each_subsumes empty = refl
each_subsumes (also h hs) = rw h (each_subsumes hs)

field_fewer : (x y : Three) → Wider x y → (x ≡ y) ⊎ (count x < count y)
unfolding allows alike code known_fields
field_fewer unknown unknown e = inl refl
field_fewer unknown low e = inr (omega arith)
field_fewer unknown high e = inr (omega arith)
field_fewer low y e = inl (alike_same low y e)
field_fewer high y e = inl (alike_same high y e)

pub known_fewer : {a b : Cube} → Each Wider a b → (a ≡ b) ⊎ (known_fields a < known_fields b)
known_fewer empty = inl refl
known_fewer (also {a = x} {b = y} {xs = a} {ys = b} h hs) = go (field_fewer x y h) (known_fewer hs)
  where
    go : (x ≡ y) ⊎ (count x < count y) → (a ≡ b) ⊎ (known_fields a < known_fields b) → (x ∷ a ≡ y ∷ b) ⊎ (known_fields (x ∷ a) < known_fields (y ∷ b))
    go (inl e) (inl f) = inl (ap₂ (λ v vs. v ∷ vs) e f)
    go (inl e) (inr f) = inr (omega (arith, known_cons x a, known_cons y b, ap count e))
    go (inr e) (inl f) = inr (omega (arith, known_cons x a, known_cons y b, ap known_fields f))
    go (inr e) (inr f) = inr (omega (arith, known_cons x a, known_cons y b))

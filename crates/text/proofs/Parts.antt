-- Laws of parts: what holds of whatever is read. Assumes nothing.
use mathlib.Core.Path.{◌≡◌, refl, subst}
use mathlib.Core.List.{List}
use Prim.Native.Nat.{ℕ}
use Rattle.text.specs.Part.{Part, got, ill}

-- P of the value read and the text after it, if anything is read
abbrev pub Holds : {A : Type 0} → (A → List ℕ → Type 0) → Part A → Type 0
Holds P (got a r) = P a r
Holds P ill = Unit {0}

pub held : {A : Type 0} (P : A → List ℕ → Type 0) {p : Part A} {a : A} {r : List ℕ} → Holds P p → p ≡ got a r → P a r
held P h e = subst (Holds P) e h

-- a proof by what a part is read as
pub by_part {ℓ} : {A : Type 0} {P : Type ℓ} (p : Part A) → ((a : A) (r : List ℕ) → p ≡ got a r → P) → (p ≡ ill → P) → P
by_part (got a r) f g = f a r refl
by_part ill f g = g refl

-- "Order, grouping and repetition make no difference, an all-X record swallows everything, and the merge is the narrowest single cube covering both":
-- on the numbers that the call answers and the bytes that it leaves, from contract to contract. The last is the call's own promise (`Narrowest`). Assumes nothing.
use mathlib.Core.Path.{◌≡◌, refl, sym, ap, ap₂, ◌∙◌}
use mathlib.Core.List.{List}
use Prim.Native.Nat.{ℕ, ◌<◌}
use lib.ListN.{length, get_or, take, replicate}
use Rattle.three.specs.Lists.{over}
use Rattle.three.specs.Value.{unknown}
use Rattle.three.specs.Cube.{Cube, merged as merged_cubes}
use Rattle.three.specs.Record.{bytes_for, pack, unpack}
use Rattle.three.proofs.Pack.{length_unpack}
use Rattle.three.proofs.Soundness.{pack_unpack}
use Rattle.three.proofs.Merge.{merged_order, merged_grouping, merged_same, merged_blank}
use Rattle.circuit.specs.Refusal.{left_by}
use Rattle.merging.specs.Call.{MergeGiven, merged_fields, Merging}
use Rattle.merging.proofs.Refusing.{room_decides, tests_swapped}
use Rattle.merging.proofs.Left.{mergeable, filled, cube_left, bytes_left, record_left}

-- a call with these fields and records, lent this buffer
abbrev pub call : ℕ → List ℕ → List ℕ → List ℕ → MergeGiven
call f a b out = record { fields = f; a = a; b = b; merged = out }

-- calls with one number that merge to one cube leave the same in the same buffer
left_alike : (out : List ℕ) (u v : Cube) {n n' : ℕ} {m m' : List ℕ} → m ≡ left_by n (over (pack u) out) out → m' ≡ left_by n' (over (pack v) out) out → n ≡ n' → u ≡ v → m ≡ m'
left_alike out u v e e' same fields = e ∙ ap₂ (λ (k : ℕ) (cube : Cube). left_by k (over (pack cube) out) out) same fields ∙ sym e'

-- order: a with b, and b with a, into the same buffer
pub order : (f : ℕ) (a b out : List ℕ) {n n' : ℕ} {m m' : List ℕ} → Merging (call f a b out) n m → Merging (call f b a out) n' m' → (n ≡ n') × (m ≡ m')
unfolding merged_fields
order f a b out x y =
    let same = x.answers ∙ tests_swapped f a b (length out) ∙ sym y.answers in
    (same, left_alike out _ _ x.fills y.fills same (merged_order _ _ (length_unpack f a ∙ sym (length_unpack f b))))

-- grouping: a with b, and that with c; and a with what b and c leave
pub grouping : (f : ℕ) (a b c out₁ out₂ out ab bc : List ℕ) → Merging (call f a b out₁) 0 ab → Merging (call f b c out₂) 0 bc
    → {n n' : ℕ} {m m' : List ℕ} → Merging (call f ab c out) n m → Merging (call f a bc out) n' m' → (n ≡ n') × (m ≡ m')
unfolding merged_fields
grouping f a b c out₁ out₂ out ab bc left right x y =
    let l = mergeable (call f a b out₁) left refl in
    let r = mergeable (call f b c out₂) right refl in
    let same =
    x.answers
    ∙ sym (room_decides f ab c (length out) l.few (record_left (call f a b out₁) left refl) r.second refl)
    ∙ room_decides f a bc (length out) l.few l.first (record_left (call f b c out₂) right refl) refl
    ∙ sym y.answers in
    let fields =
    ap (λ (v : Cube). merged_cubes v (unpack f c)) (cube_left (call f a b out₁) left refl)
    ∙ merged_grouping (unpack f a) (unpack f b) (unpack f c) (length_unpack f a ∙ sym (length_unpack f b))
    ∙ ap (merged_cubes (unpack f a)) (sym (cube_left (call f b c out₂) right refl)) in
    (same, left_alike out _ _ x.fills y.fills same fields)

-- repetition: a record with itself leaves its own bytes
pub repetition : (f : ℕ) (a out m : List ℕ) → ((i : ℕ) → get_or a i 0 < 256) → Merging (call f a a out) 0 m → take (bytes_for f) m ≡ take (bytes_for f) a
unfolding merged_fields
repetition f a out m small x =
    let r = (mergeable (call f a a out) x refl).first in
    bytes_left (call f a a out) x refl ∙ ap pack (merged_same (unpack f a)) ∙ pack_unpack f a r.fits small r.good

-- what is merged already, merged once more
pub again : (f : ℕ) (a b out₁ out ab m : List ℕ) → Merging (call f a b out₁) 0 ab → Merging (call f ab b out) 0 m → take (bytes_for f) m ≡ take (bytes_for f) ab
unfolding merged_fields
again f a b out₁ out ab m x y =
    bytes_left (call f ab b out) y refl
    ∙ ap pack
    (ap (λ (v : Cube). merged_cubes v (unpack f b)) (cube_left (call f a b out₁) x refl)
    ∙ merged_grouping (unpack f a) (unpack f b) (unpack f b) (length_unpack f a ∙ sym (length_unpack f b))
    ∙ ap (merged_cubes (unpack f a)) (merged_same (unpack f b)))
    ∙ sym (bytes_left (call f a b out₁) x refl)

-- an all-X record swallows everything, on either side: the record that is left is all X, and the bytes beyond it stay
pub swallowed : (f : ℕ) (a b out m : List ℕ) → unpack f a ≡ replicate f unknown → Merging (call f a b out) 0 m → m ≡ over (pack (replicate f unknown)) out
unfolding merged_fields
swallowed f a b out m e x =
    filled (call f a b out) x refl
    ∙ ap (λ (v : Cube). over (pack v) out) (ap (λ (v : Cube). merged_cubes v (unpack f b)) e ∙ merged_blank f (unpack f b))

pub swallows : (f : ℕ) (a b out m : List ℕ) → unpack f b ≡ replicate f unknown → Merging (call f a b out) 0 m → m ≡ over (pack (replicate f unknown)) out
unfolding merged_fields
swallows f a b out m e x =
    filled (call f a b out) x refl
    ∙ ap (λ (v : Cube). over (pack v) out)
    (merged_order _ _ (length_unpack f a ∙ sym (length_unpack f b)) ∙ ap (λ (v : Cube). merged_cubes v (unpack f a)) e ∙ merged_blank f (unpack f a))

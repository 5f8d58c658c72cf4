-- The tick in cubes is sound, and with no X it is the Boolean one: two readings of one pass keep whatever relation
-- the operations of the two logics keep. Assumes nothing.
use mathlib.Core.Path.{◌≡◌, refl, ap, ap₂, ◌∙◌}
use mathlib.Core.Bool.{Bool, true, false, not, ◌&&◌}
use mathlib.Core.List.{List, [], ◌∷◌, map}
use Prim.Native.Nat.{ℕ, zero, suc, ◌/◌, ◌%◌}
use Rattle.three.specs.Lists.{Each, empty, also}
use Rattle.three.specs.Value.{Three, Logic, known, both, inverse, boolean, ternary}
use Rattle.three.specs.Cube.{Cube, Holds, any, off, on, ◌∋◌}
use Rattle.three.proofs.Lists.{each_get_or, each_append, each_map}
use Rattle.circuit.specs.Circuit.{Circuit, Gate, signed, value, pass, settle, readings}

-- ---- a relation that the operations of two logics keep is kept by a circuit

pub record Keeps {A B : Type 0} (R : A → B → Type 0) (l : Logic A) (m : Logic B) : Type 0 where
  pub false : R l.false m.false
  pub and : {a a' : A} {b b' : B} → R a b → R a' b' → R (l.and a a') (m.and b b')
  pub invert : {a : A} {b : B} → R a b → R (l.invert a) (m.invert b)

module _ {A B : Type 0} {R : A → B → Type 0} {l : Logic A} {m : Logic B} (keeps : Keeps R l m) where
  signed_keeps : (n : ℕ) {a : A} {b : B} → R a b → R (signed l n a) (signed m n b)
  unfolding signed
  signed_keeps zero r = r
  signed_keeps (suc n) r = keeps.invert r

  value_keeps : {xs : List A} {ys : List B} → Each R xs ys → (literal : ℕ) → R (value l xs literal) (value m ys literal)
  unfolding value
  value_keeps rs literal = signed_keeps (literal % 2) (each_get_or rs keeps.false (literal / 2))

  pass_keeps : (gates : List Gate) {xs : List A} {ys : List B} → Each R xs ys → Each R (pass l xs gates) (pass m ys gates)
  unfolding pass
  pass_keeps [] rs = rs
  pass_keeps (g ∷ gs) rs =
      pass_keeps gs (each_append rs (also (keeps.and (value_keeps rs g.left) (value_keeps rs g.right)) empty))

  module _ (c : Circuit) {switches state : List A} {r s : List B} (in_switches : Each R switches r) (in_state : Each R state s) where
    settle_keeps : Each R (settle l c switches state) (settle m c r s)
    unfolding settle
    settle_keeps = pass_keeps c.gates (also keeps.false (each_append in_switches in_state))

    pub readings_keeps : (literals : List ℕ) → Each R (readings l c literals switches state) (readings m c literals r s)
    unfolding readings
    readings_keeps = each_map _ _ (value_keeps settle_keeps)

-- ---- soundness: a field holds a bit

and_holds : {a a' : Three} {b b' : Bool} → Holds a b → Holds a' b' → Holds (both a a') (b && b')
unfolding both
and_holds any any = any
and_holds {b = true} any off = off
and_holds {b = false} any off = off
and_holds any on = any
and_holds off h = off
and_holds on any = any
and_holds on off = off
and_holds on on = on

invert_holds : {a : Three} {b : Bool} → Holds a b → Holds (inverse a) (not b)
unfolding inverse
invert_holds any = any
invert_holds off = on
invert_holds on = off

holds_kept : Keeps Holds ternary boolean
unfolding ternary boolean
holds_kept = record { false = off; and = and_holds; invert = invert_holds }

-- whatever the switches and the state really are, what is read from the pass, the next state and the lamps, holds what really comes
pub readings_sound : (c : Circuit) (literals : List ℕ) (switches state : Cube) (r s : List Bool) → switches ∋ r → state ∋ s
    → readings ternary c literals switches state ∋ readings boolean c literals r s
readings_sound c literals switches state r s in_switches in_state = readings_keeps holds_kept c in_switches in_state literals

-- ---- with no X: a field is a bit

abbrev Is : Three → Bool → Type 0
Is a b = a ≡ known b

and_known : (b b' : Bool) → both (known b) (known b') ≡ known (b && b')
unfolding both known
and_known false b' = refl
and_known true false = refl
and_known true true = refl

invert_known : (b : Bool) → inverse (known b) ≡ known (not b)
unfolding inverse known
invert_known false = refl
invert_known true = refl

is_kept : Keeps Is ternary boolean
unfolding ternary boolean known
is_kept = record {
  false = refl;
  and = λ {a} {a'} {b} {b'} e e'. ap₂ both e e' ∙ and_known b b';
  invert = λ {a} {b} e. ap inverse e ∙ invert_known b;
}

each_known : (bs : List Bool) → Each Is (map known bs) bs
each_known [] = empty
each_known (b ∷ bs) = also refl (each_known bs)

known_each : {vs : Cube} {bs : List Bool} → Each Is vs bs → vs ≡ map known bs
known_each empty = refl
known_each (also e es) = ap₂ ◌∷◌ e (known_each es)

-- switches and a state without X give a next state and lamps without X, and they are the Boolean ones
pub readings_boolean : (c : Circuit) (literals : List ℕ) (r s : List Bool) → readings ternary c literals (map known r) (map known s) ≡ map known (readings boolean c literals r s)
readings_boolean c literals r s = known_each (readings_keeps is_kept c (each_known r) (each_known s) literals)

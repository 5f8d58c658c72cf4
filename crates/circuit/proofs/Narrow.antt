-- The tick in cubes is monotone: what is read in a wider cube, the next state too, is wider. Assumes nothing.
use mathlib.Core.Path.{refl}
use mathlib.Core.Bool.{Bool, true, cond}
use mathlib.Core.List.{List}
use Prim.Native.Nat.{ℕ}
use Rattle.three.specs.Lists.{Each}
use Rattle.three.specs.Value.{Three, code, both, inverse, ternary}
use Rattle.three.specs.Cube.{Cube, alike, allows}
use Rattle.three.proofs.Lists.{each_self}
use Rattle.three.proofs.Fields.{at_each, of_two, allows_self}
use Rattle.three.proofs.Subsuming.{Wider}
use Rattle.circuit.specs.Circuit.{Circuit, readings}
use Rattle.circuit.proofs.Sound.{Keeps, readings_keeps}

-- where both pairs allow, so do the answers of the gate rule
gate_allows : Three → Three → Three → Three → Bool
gate_allows a b a' b' = cond (allows a b) (cond (allows a' b') (allows (both a a') (both b b')) true) true

and_wider : (a b a' b' : Three) → Wider a b → Wider a' b' → Wider (both a a') (both b b')
unfolding gate_allows allows alike code both
and_wider a b a' b' h g =
    rw (h, g) at (of_two (gate_allows a b) (of_two (λ a b. at_each (λ a'. at_each (gate_allows a b a'))) refl a b) a' b')

invert_wider : (a b : Three) → Wider a b → Wider (inverse a) (inverse b)
unfolding allows alike code inverse
invert_wider a b h = rw h at (of_two (λ a b. cond (allows a b) (allows (inverse a) (inverse b)) true) refl a b)

wider_kept : Keeps Wider ternary ternary
unfolding ternary
wider_kept = record {
  false = allows_self _;
  and = λ {a} {a'} {b} {b'} h g. and_wider a b a' b' h g;
  invert = λ {a} {b} h. invert_wider a b h;
}

pub readings_wider : (c : Circuit) (literals : List ℕ) (switches : Cube) {a b : Cube} → Each Wider a b
    → Each Wider (readings ternary c literals switches a) (readings ternary c literals switches b)
readings_wider c literals switches h = readings_keeps wider_kept c (each_self allows_self switches) h literals

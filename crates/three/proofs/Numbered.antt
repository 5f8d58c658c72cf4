-- A cube of so many fields as a number below 3 to that power: so many cubes and one more are not all different. Assumes nothing.
use mathlib.Core.Path.{◌≡◌, refl, sym, ap₂, ◌∙◌}
use mathlib.Core.List.{[], ◌∷◌}
use Prim.Native.Nat.{ℕ, ◌+◌, ◌*◌, ◌^◌, ◌<◌, ◌≤◌}
use native.Mathlib.Nat.{pow-suc}
use native.Mathlib.Omega.{arith}
use lib.ListN.{length}
use Rattle.three.specs.Value.{Three, unknown, low, high, code}
use Rattle.three.specs.Cube.{Cube}
use Rattle.three.proofs.Pigeons.{pigeons}

numbered : Cube → ℕ
numbered [] = 0
numbered (v ∷ vs) = code v + 3 * numbered vs

code_small : (v : Three) → code v < 3
unfolding code
code_small unknown = omega arith
code_small low = omega arith
code_small high = omega arith

code_same : (v w : Three) → code v ≡ code w → v ≡ w
unfolding code
code_same unknown unknown e = refl
code_same low low e = refl
code_same high high e = refl
code_same unknown low e = absurd (omega arith)
code_same unknown high e = absurd (omega arith)
code_same low unknown e = absurd (omega arith)
code_same low high e = absurd (omega arith)
code_same high unknown e = absurd (omega arith)
code_same high low e = absurd (omega arith)

numbered_small : (c : Cube) → numbered c < 3 ^ length c
unfolding numbered
numbered_small [] = omega arith
numbered_small (v ∷ vs) = rw (pow-suc 3 (length vs)) (omega (arith, code_small v, numbered_small vs))

numbered_same : (a b : Cube) → length a ≡ length b → numbered a ≡ numbered b → a ≡ b
unfolding numbered
numbered_same [] [] l e = refl
numbered_same [] (w ∷ b) l e = absurd (omega arith)
numbered_same (v ∷ a) [] l e = absurd (omega arith)
numbered_same (v ∷ a) (w ∷ b) l e =
    ap₂ (λ x xs. x ∷ xs) (code_same v w (omega (arith, code_small v, code_small w))) (numbered_same a b (omega arith) (omega (arith, code_small v, code_small w)))

-- two of the cubes 0 to 3 ^ size are the same
pub record Repeats (size : ℕ) (cubes : ℕ → Cube) : Type 0 where
  pub i : ℕ
  pub j : ℕ
  pub order : i < j
  pub within : j ≤ 3 ^ size
  pub same : cubes i ≡ cubes j

pub repeats : (size : ℕ) (cubes : ℕ → Cube) → ((k : ℕ) → length (cubes k) ≡ size) → Repeats size cubes
repeats size cubes sized =
    let t = pigeons (3 ^ size) (λ k. numbered (cubes k)) (λ k h. rw (sized k) at (numbered_small (cubes k))) in
    record { i = t.i; j = t.j; order = t.order; within = t.within; same = numbered_same _ _ (sized t.i ∙ sym (sized t.j)) t.same }

-- Laws of one pass over the gates, in any logic. Assumes nothing.
use mathlib.Core.Path.{◌≡◌, sym, ap, ◌∙◌}
use mathlib.Core.List.{List, [], ◌∷◌, ◌++◌, append_assoc}
use Prim.Native.Nat.{ℕ, ◌+◌, ◌*◌, ◌/◌, ◌%◌, ◌<◌}
use native.Mathlib.Nat.{add-zero}
use native.Mathlib.Omega.{arith}
use lib.ListN.{length, take, length-append, length-map}
use lib.Seq.{get_or-take, take-append_seam}
use Rattle.three.specs.Value.{Logic}
use Rattle.circuit.specs.Circuit.{Circuit, Gate, signed, value, pass, readings, next}

module _ {A : Type 0} (logic : Logic A) where
  -- a literal below 2 n is read from the first n values
  pub value_take : (values : List A) (x n : ℕ) → x < 2 * n → value logic (take n values) x ≡ value logic values x
  unfolding value
  value_take values x n h = ap (signed logic (x % 2)) (get_or-take n values (x / 2) logic.false (omega arith))

  -- a value for each gate is put behind those it starts from
  pub length_pass : (vs : List A) (gs : List Gate) → length (pass logic vs gs) ≡ length vs + length gs
  unfolding pass
  length_pass vs [] = sym (add-zero (length vs))
  length_pass vs (g ∷ gs) = length_pass (vs ++ logic.and (value logic vs g.left) (value logic vs g.right) ∷ []) gs ∙ rw length-append (omega arith)

  pub pass_front : (vs ws : List A) (gs : List Gate) → take (length vs) (pass logic (vs ++ ws) gs) ≡ vs
  unfolding pass
  pass_front vs ws [] = take-append_seam vs ws
  pass_front vs ws (g ∷ gs) = rw append_assoc (pass_front vs (ws ++ logic.and (value logic (vs ++ ws) g.left) (value logic (vs ++ ws) g.right) ∷ []) gs)

  -- what is read from it has a value for each literal
  module _ (c : Circuit) (switches state : List A) where
    pub readings_sized : (literals : List ℕ) → length (readings logic c literals switches state) ≡ length literals
    unfolding readings
    readings_sized literals = length-map literals _

    pub next_sized : length (next logic c switches state) ≡ length c.latches
    next_sized = readings_sized _ ∙ length-map c.latches _

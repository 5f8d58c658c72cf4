-- Laws of 22: the sources found are operands to walk, and what the walk and the sort answer is the drawing's. Assumes nothing.
use mathlib.Core.Path.{◌≡◌, sym, ap, ◌∙◌}
use mathlib.Core.Bool.{Bool, true, false, false≢true}
use mathlib.Core.List.{List}
use Prim.Native.Nat.{ℕ, ◌+◌, ◌*◌, ◌/◌, ◌<◌}
use native.Mathlib.Omega.{arith}
use lib.ListN.{length, get_or}
use Rattle.circuit.specs.declared.Counts.{Counts}
use Rattle.circuit.specs.Table.{variables, gates_at}
use Rattle.drawn.specs.Drawing.{Drawing, leaves, lines, source, left_source, right_source}
use Rattle.order.specs.Walk.{operand, Operands, Found}
use Rattle.order.specs.Sort.{Depths, Ordered}
use Rattle.order.proofs.Linked.{found_depths, found_loopless, found_order}
use Rattle.defined.specs.Places.{held, Entered, Sourced, SomeEntered, Judged, Spoken}

-- depths that are found can be sorted by
pub depths_ready : (xs ys : List ℕ) (n : ℕ) → Operands xs ys n → {r : Bool} (depths : List ℕ) → Found xs ys n r depths → r ≡ true → Depths n depths
depths_ready xs ys n given depths f z = found_depths xs ys n given depths (rw z at f)

-- for every drawing with these entries, the sources of its operands from word `at` on
abbrev pub Sources : Counts → List ℕ → List ℕ → ℕ → ℕ → List ℕ → Type 0
Sources c words places n at out = (d : Drawing) → leaves d ≡ n → Entered d (lines d) places → Sourced d words at c.gates out

module _ (c : Counts) (words places : List ℕ) (n : ℕ) (few : c.inputs + c.latches ≡ n) (xs ys : List ℕ)
    (lefts : Sources c words places n (gates_at c) xs) (rights : Sources c words places n (gates_at c + 1) ys) where
  pub operands : Spoken c words → SomeEntered c words places → length xs ≡ 4096 → length ys ≡ 4096 → Operands xs ys c.gates
  operands s (most, owns, e) a b =
      let l = lefts (held most c owns words) few e in
      let r = rights (held most c owns words) few e in
      record {
        few = s.bounded.gates;
        left_long = omega (arith, s.bounded.gates, a);
        right_long = omega (arith, s.bounded.gates, b);
        lefts = l.small;
        rights = r.small;
      }

  module _ (given : Operands xs ys c.gates) (most : ℕ) (owns : List ℕ) (e : Entered (held most c owns words) (variables c) places) where
    abbrev d : Drawing
    d = held most c owns words

    left_same : (i : ℕ) → i < c.gates → operand xs i ≡ left_source d i
    left_same i h = (lefts d few e).same i h

    right_same : (i : ℕ) → i < c.gates → operand ys i ≡ right_source d i
    right_same i h =
        let z : gates_at c + 1 + 2 * i ≡ gates_at c + 2 * i + 1 = omega arith in
        (rights d few e).same i h ∙ ap (λ (k : ℕ). source d (get_or words k 0 / 2)) z

    pub loops_judged : {r : Bool} {depths : List ℕ} (order : List ℕ) → Found xs ys c.gates r depths → r ≡ false → Judged d false order
    loops_judged order f z = record { answers = sym z ∙ found_loopless d xs ys given left_same right_same f; orders = λ t. absurd (false≢true t) }

    pub order_judged : {r : Bool} (depths order : List ℕ) → Found xs ys c.gates r depths → r ≡ true → Ordered c.gates depths order → Judged d true order
    order_judged depths order f z o =
        let g : Found xs ys c.gates true depths = rw z at f in
        record { answers = found_loopless d xs ys given left_same right_same g; orders = λ t q h. found_order d xs ys given left_same right_same depths order g o q h }

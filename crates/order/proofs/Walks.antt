-- Laws of the walk: what a turn does, what remains to do, and what the walk has found at its end. Assumes nothing.
use mathlib.Core.Path.{◌≡◌, refl, sym, ap, ap₂, ◌∙◌}
use mathlib.Core.Bool.{true, false, true≢false, false≢true}
use mathlib.Core.Logic.{inl, inr}
use mathlib.Core.List.{List}
use Prim.Native.Nat.{ℕ, zero, suc, ◌+◌, ◌-◌, ◌<◌, ◌≤◌, max}
use native.Mathlib.Nat.{le-max_left, le-max_right, max-le, not-suc-le-zero}
use native.Mathlib.Omega.{arith}
use native.Mathlib.Decide.{dec_lt, ℕ_discrete}
use borrow.Author.Tests.{leb-true}
use lib.Dec.{leb, eqb, eqb-suc-zero}
use lib.ListN.{length, get_or, set, length-set}
use lib.Seq.{get_or-set_same, get_or-set_other}
use Rattle.three.proofs.Lists.{by_test, every_at}
use Rattle.drawn.specs.Depth.{leaf, gate, depth, deep, loopless}
use Rattle.drawn.specs.DepthInCode.{Reads}
use Rattle.drawn.proofs.Loops.{steady, path_lower, Walk, walk_loops, loop_refused, refused_loop}
use Rattle.order.specs.Walk.{source_of, operand, depth_at, waiting, blank, blanks, Blank, Operands, Whole, Walking, Last, to_do, Turned, Found}

-- ---- blanks

blanks_ext : (n : ℕ) (xs ys : List ℕ) → ((i : ℕ) → i < n → get_or xs i 0 ≡ get_or ys i 0) → blanks n xs ≡ blanks n ys
unfolding blanks
blanks_ext zero xs ys h = refl
blanks_ext (suc n) xs ys h = ap₂ (λ (a b : ℕ). a + b) (blanks_ext n xs ys (λ i l. h i (omega arith))) (ap blank (h n (omega arith)))

blank_small : (d : ℕ) → blank d ≤ 1
unfolding blank
blank_small zero = omega arith
blank_small (suc d) = omega arith

pub blanks_small : (n : ℕ) (xs : List ℕ) → blanks n xs ≤ n
unfolding blanks
blanks_small zero xs = omega arith
blanks_small (suc n) xs = omega (arith, blanks_small n xs, blank_small (get_or xs n 0))

blank_known : (d : ℕ) → 0 < d → blank d ≡ 0
unfolding blank
blank_known zero h = absurd (not-suc-le-zero h)
blank_known (suc d) h = refl

blank_unknown : (d : ℕ) → d ≡ 0 → blank d ≡ 1
unfolding blank
blank_unknown d e = rw e

-- a depth that becomes known is one blank less
blanks_set : (n i v : ℕ) (xs : List ℕ) → i < n → i < length xs → get_or xs i 0 ≡ 0 → 0 < v → blanks n xs ≡ suc (blanks n (set xs i v))
unfolding blanks
blanks_set zero i v xs h l e k = absurd (not-suc-le-zero h)
blanks_set (suc n) i v xs h l e k = go (ℕ_discrete i n) (λ m. blanks_set n i v xs m l e k)
  where
    go : Dec (i ≡ n) → (i < n → blanks n xs ≡ suc (blanks n (set xs i v))) → blanks n xs + blank (get_or xs n 0) ≡ suc (blanks n (set xs i v) + blank (get_or (set xs i v) n 0))
    go (yes s) f =
        let a : blanks n (set xs i v) ≡ blanks n xs = blanks_ext n (set xs i v) xs (λ j m. get_or-set_other xs i j v 0 (λ q. omega arith)) in
        let b : blank (get_or xs n 0) ≡ 1 = blank_unknown (get_or xs n 0) (ap (λ (m : ℕ). get_or xs m 0) (sym s) ∙ e) in
        let c : get_or (set xs i v) n 0 ≡ v = ap (λ (m : ℕ). get_or (set xs i v) m 0) (sym s) ∙ get_or-set_same xs i v 0 l in
        let d : blank (get_or (set xs i v) n 0) ≡ 0 = ap blank c ∙ blank_known v k in
        omega (arith, a, b, d)
    go (no s) f =
        let a = f (omega arith) in
        let b : get_or (set xs i v) n 0 ≡ get_or xs n 0 = get_or-set_other xs i n v 0 (λ q. s (sym q)) in
        omega (arith, a, ap blank b)

-- ---- sources

gate_same : {i k : ℕ} → gate i ≡ gate k → i ≡ k
gate_same e = cc

leaf_gate : {k : ℕ} → leaf ≡ gate k → ⊥
leaf_gate e = let z : ◌≡◌ {A = ℕ} 0 1 = cc in omega arith

-- ---- operands as the code reads them

pub leaf_waits : (depths : List ℕ) (x : ℕ) → x ≡ 0 → false ≡ waiting depths x
unfolding waiting
leaf_waits depths x e = rw e

pub gate_waits : (depths : List ℕ) (x : ℕ) → (x ≡ 0 → ⊥) → eqb (get_or depths (x - 1) 0) 0 ≡ waiting depths x
unfolding waiting
gate_waits depths zero h = absurd (h refl)
gate_waits depths (suc i) h = let e : suc i - 1 ≡ i = omega arith in rw e (zero_or (get_or depths i 0))
  where
    zero_or : (d : ℕ) → eqb d 0 ≡ elim d [ zero ↦ true | suc d ↦ false ]
    zero_or zero = refl
    zero_or (suc d) = eqb-suc-zero d

pub leaf_depth : (depths : List ℕ) (x : ℕ) → x ≡ 0 → 0 ≡ depth_at depths x
unfolding depth_at
leaf_depth depths x e = rw e

pub gate_depth : (depths : List ℕ) (x : ℕ) → (x ≡ 0 → ⊥) → get_or depths (x - 1) 0 ≡ depth_at depths x
unfolding depth_at
gate_depth depths zero h = absurd (h refl)
gate_depth depths (suc i) h = let e : suc i - 1 ≡ i = omega arith in rw e

-- a gate that waits
pub waiting_gate : (depths : List ℕ) (x : ℕ) → waiting depths x ≡ true → (source_of x ≡ gate (x - 1)) × (0 < x) × (get_or depths (x - 1) 0 ≡ 0)
unfolding waiting source_of
waiting_gate depths zero e = absurd (false≢true e)
waiting_gate depths (suc i) e = let p : suc i - 1 ≡ i = omega arith in rw p (refl, omega arith, blank_there (get_or depths i 0) e)
  where
    blank_there : (d : ℕ) → elim d [ zero ↦ true | suc d ↦ false ] ≡ true → d ≡ 0
    blank_there zero e = refl
    blank_there (suc d) e = absurd (false≢true e)

-- ---- whole depths

module _ (left right : List ℕ) where
  whole_leaf : Whole left right leaf 0
  unfolding depth
  whole_leaf = refl

  whole_gate : (i a b : ℕ) → Whole left right (operand left i) a → Whole left right (operand right i) b → Whole left right (gate i) (suc (max a b))
  unfolding depth
  whole_gate i a b p q =
      let m : ℕ = max a b in
      ap₂ (λ (x y : ℕ). suc (max x y))
      (steady (operand left) (operand right) (suc a) (suc m) (operand left i) (omega (arith, p)) (omega (arith, le-max_left a b)) ∙ p)
      (steady (operand left) (operand right) (suc b) (suc m) (operand right i) (omega (arith, q)) (omega (arith, le-max_right a b)) ∙ q)

  -- no gate waits
  pub at_bottom : {count passed h : ℕ} {stack depths : List ℕ} → h ≡ 0 → Walking left right count passed stack h depths → Walking left right count passed stack 0 depths
  at_bottom e w = rw e at w

  pub from_bottom : {count passed h passed' h' : ℕ} {stack depths stack' depths' : List ℕ} → h ≡ 0
      → Turned left right count passed stack 0 depths passed' stack' h' depths' → Turned left right count passed stack h depths passed' stack' h' depths'
  from_bottom e t = rw e t

  module _ (count : ℕ) (given : Operands left right count) where
    -- ---- operands

    below_source : (x k : ℕ) → x ≤ count → source_of x ≡ gate k → k < count
    unfolding source_of
    below_source zero k h e = absurd (leaf_gate e)
    below_source (suc i) k h e = let same : i ≡ k = gate_same e in omega (arith, same)

    pub left_below : (i k : ℕ) → i < count → operand left i ≡ gate k → k < count
    left_below i k h e = below_source (get_or left i 0) k (given.lefts i h) e

    pub right_below : (i k : ℕ) → i < count → operand right i ≡ gate k → k < count
    right_below i k h e = below_source (get_or right i 0) k (given.rights i h) e

    -- the walk begins with no depth known and no gate that waits
    pub walk_first : (stack depths : List ℕ) → length stack ≡ 4096 → length depths ≡ 4096 → Blank count depths → Walking left right count 0 stack 0 depths
    walk_first stack depths s d b = record {
      within = omega arith;
      low = omega arith;
      stack_long = s;
      depths_long = d;
      known = λ i h. absurd (not-suc-le-zero h);
      whole = λ i h p. absurd (omega (arith, b i h, p));
      small = λ i h. omega (arith, b i h, blanks_small count depths);
      gates = λ k h. absurd (not-suc-le-zero h);
      waits = λ k h. absurd (not-suc-le-zero h);
      steps = λ k h. absurd (not-suc-le-zero h);
    }

    module _ (passed : ℕ) (stack : List ℕ) (height : ℕ) (depths : List ℕ) (w : Walking left right count passed stack height depths) where
      -- an operand that does not wait has its whole depth
      answered : (x : ℕ) → x ≤ count → waiting depths x ≡ false → Whole left right (source_of x) (depth_at depths x)
      unfolding waiting depth_at source_of
      answered zero h e = whole_leaf
      answered (suc i) h e = w.whole i (omega arith) (positive (get_or depths i 0) e)
        where
          positive : (d : ℕ) → elim d [ zero ↦ true | suc d ↦ false ] ≡ false → 0 < d
          positive zero e = absurd (true≢false e)
          positive (suc d) e = omega arith

      answered_small : (x : ℕ) → x ≤ count → depth_at depths x + blanks count depths ≤ count
      unfolding depth_at
      answered_small zero h = omega (arith, blanks_small count depths)
      answered_small (suc i) h = w.small i (omega arith)

      answered_known : (x k : ℕ) → waiting depths x ≡ false → source_of x ≡ gate k → get_or depths k 0 ≡ 0 → ⊥
      unfolding waiting source_of
      answered_known zero k e s z = leaf_gate s
      answered_known (suc i) k e s z =
          let same : i ≡ k = gate_same s in
          let zeros : get_or depths i 0 ≡ 0 = ap (λ (n : ℕ). get_or depths n 0) same ∙ z in
          true≢false (rw (zeros, waiting) at e)

      -- ---- a turn

      pub turn_skips : passed < count → height ≡ 0 → (get_or depths passed 0 ≡ 0 → ⊥) → Turned left right count passed stack height depths (passed + 1) stack 0 depths
      unfolding to_do
      turn_skips h z d = record {
        walking = record {
          within = omega arith;
          low = omega arith;
          stack_long = w.stack_long;
          depths_long = w.depths_long;
          known = λ i l. known_next i (dec_lt i passed) l;
          whole = w.whole;
          small = w.small;
          gates = λ k l. absurd (not-suc-le-zero l);
          waits = λ k l. absurd (not-suc-le-zero l);
          steps = λ k l. absurd (not-suc-le-zero l);
        };
        less = omega (arith, z);
      }
        where
          known_next : (i : ℕ) → Dec (i < passed) → i < passed + 1 → 0 < get_or depths i 0
          known_next i (yes a) l = w.known i a
          known_next i (no a) l = let same : i ≡ passed = omega arith in rw same (omega (arith, d))

      pub turn_begins : passed < count → height ≡ 0 → get_or depths passed 0 ≡ 0 → Turned left right count passed stack height depths passed (set stack 0 passed) 1 depths
      unfolding to_do
      turn_begins h z d = record {
        walking = record {
          within = w.within;
          low = omega arith;
          stack_long = length-set stack 0 passed ∙ w.stack_long;
          depths_long = w.depths_long;
          known = w.known;
          whole = w.whole;
          small = w.small;
          gates = λ k l. rw (there k l) h;
          waits = λ k l. rw (there k l) d;
          steps = λ k l. absurd (omega arith);
        };
        less = omega (arith, z);
      }
        where
          there : (k : ℕ) → k < 1 → get_or (set stack 0 passed) k 0 ≡ passed
          there k l = let same : k ≡ 0 = omega arith in rw same (get_or-set_same stack 0 passed 0 (omega (arith, w.stack_long)))

      -- the last gate of the stack waits for the operand 1 + k: down to it
      pub turn_descends : (last k : ℕ) → 0 < height → height ≤ count → last ≡ get_or stack (height - 1) 0 → Reads (operand left) (operand right) last k → k < count → get_or depths k 0 ≡ 0
          → Turned left right count passed stack height depths passed (set stack height k) (height + 1) depths
      unfolding to_do
      turn_descends last k pos l top reads few d = record {
        walking = record {
          within = w.within;
          low = omega arith;
          stack_long = length-set stack height k ∙ w.stack_long;
          depths_long = w.depths_long;
          known = w.known;
          whole = w.whole;
          small = w.small;
          gates = λ j m. gates_next j (dec_lt j height) m;
          waits = λ j m. waits_next j (dec_lt j height) m;
          steps = λ j m. steps_next j (dec_lt (suc j) height) m;
        };
        less = omega arith;
      }
        where
          before : (j : ℕ) → j < height → get_or (set stack height k) j 0 ≡ get_or stack j 0
          before j m = get_or-set_other stack height j k 0 (λ q. omega arith)

          at_top : get_or (set stack height k) height 0 ≡ k
          at_top = get_or-set_same stack height k 0 (omega (arith, w.stack_long, given.few))

          gates_next : (j : ℕ) → Dec (j < height) → j < height + 1 → get_or (set stack height k) j 0 < count
          gates_next j (yes a) m = rw (before j a) (w.gates j a)
          gates_next j (no a) m = let same : j ≡ height = omega arith in rw (same, at_top) few

          waits_next : (j : ℕ) → Dec (j < height) → j < height + 1 → get_or depths (get_or (set stack height k) j 0) 0 ≡ 0
          waits_next j (yes a) m = rw (before j a) (w.waits j a)
          waits_next j (no a) m = let same : j ≡ height = omega arith in rw (same, at_top) d

          steps_next : (j : ℕ) → Dec (suc j < height) → suc j < height + 1 → Reads (operand left) (operand right) (get_or (set stack height k) j 0) (get_or (set stack height k) (suc j) 0)
          steps_next j (yes a) m = rw (before j (omega arith), before (suc j) a) (w.steps j a)
          steps_next j (no a) m =
              let same : suc j ≡ height = omega arith in
              let place : height - 1 ≡ j = omega arith in
              let is_last : get_or (set stack height k) j 0 ≡ last = before j (omega arith) ∙ ap (λ (n : ℕ). get_or stack n 0) (sym place) ∙ sym top in
              let is_k : get_or (set stack height k) (suc j) 0 ≡ k = ap (λ (n : ℕ). get_or (set stack height k) n 0) same ∙ at_top in
              rw (is_last, is_k) reads

      pub last_is : (last : ℕ) → 0 < height → height ≤ count → last ≡ get_or stack (height - 1) 0 → Last left right count stack height last
      last_is last some low is =
          let few : last < count = rw is (w.gates (height - 1) (omega arith)) in
          record { some = some; low = low; is = is; few = few; left_small = given.lefts last few; right_small = given.rights last few }

      pub turn_left : (last x : ℕ) → Last left right count stack height last → x ≡ get_or left last 0 → waiting depths x ≡ true
          → Turned left right count passed stack height depths passed (set stack height (x - 1)) (height + 1) depths
      turn_left last x at is_x e =
          let g = waiting_gate depths x e in
          turn_descends last (x - 1) at.some at.low at.is (inl (ap source_of (sym is_x) ∙ g.0)) (omega (arith, g.1, is_x, at.left_small)) g.2

      pub turn_right : (last x : ℕ) → Last left right count stack height last → x ≡ get_or right last 0 → waiting depths x ≡ true
          → Turned left right count passed stack height depths passed (set stack height (x - 1)) (height + 1) depths
      turn_right last x at is_x e =
          let g = waiting_gate depths x e in
          turn_descends last (x - 1) at.some at.low at.is (inr (ap source_of (sym is_x) ∙ g.0)) (omega (arith, g.1, is_x, at.right_small)) g.2

      -- the depth to store fits
      pub deeper_small : (x y : ℕ) → x ≤ count → y ≤ count → max (depth_at depths x) (depth_at depths y) ≤ count
      deeper_small x y h k = max-le (omega (arith, answered_small x h)) (omega (arith, answered_small y k))

      -- neither operand of the last gate waits: its depth, and back
      pub turn_returns : (last v : ℕ) → Last left right count stack height last
          → waiting depths (get_or left last 0) ≡ false → waiting depths (get_or right last 0) ≡ false
          → v ≡ suc (max (depth_at depths (get_or left last 0)) (depth_at depths (get_or right last 0)))
          → Turned left right count passed stack height depths passed stack (height - 1) (set depths last v)
      unfolding to_do
      turn_returns last v at e f is_v =
          let few = at.few in
          let pos = at.some in
          let long : last < length depths = omega (arith, few, given.few, w.depths_long) in
          let unknown : get_or depths last 0 ≡ 0 = rw at.is (w.waits (height - 1) (omega arith)) in
          let fewer : blanks count depths ≡ suc (blanks count (set depths last v)) = blanks_set count last v depths few long unknown (omega (arith, is_v)) in
          let new : get_or (set depths last v) last 0 ≡ v = get_or-set_same depths last v 0 long in
          let a = answered_small (get_or left last 0) (given.lefts last few) in
          let b = answered_small (get_or right last 0) (given.rights last few) in
          let most : max (depth_at depths (get_or left last 0)) (depth_at depths (get_or right last 0)) ≤ count - blanks count depths = max-le (omega (arith, a)) (omega (arith, b)) in
          let v_small : v + blanks count (set depths last v) ≤ count = omega (arith, is_v, fewer, most, blanks_small count depths) in
          let v_whole : Whole left right (gate last) v = rw is_v (whole_gate last _ _ (answered (get_or left last 0) (given.lefts last few) e) (answered (get_or right last 0) (given.rights last few) f)) in
          record {
            walking = record {
              within = w.within;
              low = omega arith;
              stack_long = w.stack_long;
              depths_long = length-set depths last v ∙ w.depths_long;
              known = λ i m. known_next i (ℕ_discrete i last) m new;
              whole = λ i m p. whole_next i (ℕ_discrete i last) m p new v_whole;
              small = λ i m. small_next i (ℕ_discrete i last) m new v_small fewer;
              gates = λ k m. w.gates k (omega arith);
              waits = λ k m. get_or-set_other depths last (get_or stack k 0) v 0 (apart k m) ∙ w.waits k (omega arith);
              steps = λ k m. w.steps k (omega arith);
            };
            less = omega (arith, fewer);
          }
        where
          same_at : (i : ℕ) → i ≡ last → get_or (set depths last v) last 0 ≡ v → get_or (set depths last v) i 0 ≡ v
          same_at i q new = ap (λ (n : ℕ). get_or (set depths last v) n 0) q ∙ new

          other_at : (i : ℕ) → (i ≡ last → ⊥) → get_or (set depths last v) i 0 ≡ get_or depths i 0
          other_at i q = get_or-set_other depths last i v 0 q

          known_next : (i : ℕ) → Dec (i ≡ last) → i < passed → get_or (set depths last v) last 0 ≡ v → 0 < get_or (set depths last v) i 0
          known_next i (yes q) m new = rw (same_at i q new) (omega (arith, is_v))
          known_next i (no q) m new = rw (other_at i q) (w.known i m)

          whole_next : (i : ℕ) → Dec (i ≡ last) → i < count → 0 < get_or (set depths last v) i 0 → get_or (set depths last v) last 0 ≡ v → Whole left right (gate last) v → Whole left right (gate i) (get_or (set depths last v) i 0)
          whole_next i (yes q) m p new whole = rw (same_at i q new, q) whole
          whole_next i (no q) m p new whole = rw (other_at i q) (w.whole i m (rw (other_at i q) at p))

          small_next : (i : ℕ) → Dec (i ≡ last) → i < count → get_or (set depths last v) last 0 ≡ v → v + blanks count (set depths last v) ≤ count → blanks count depths ≡ suc (blanks count (set depths last v)) → get_or (set depths last v) i 0 + blanks count (set depths last v) ≤ count
          small_next i (yes q) m new s fewer = omega (arith, same_at i q new, s)
          small_next i (no q) m new s fewer = omega (arith, other_at i q, w.small i m, fewer)

          -- a gate further back is another: it waits for one that has no depth yet
          apart : (k : ℕ) → k < height - 1 → get_or stack k 0 ≡ last → ⊥
          apart k m q = known_reads (rw q at (w.steps k (omega arith)))
            where
              known_reads : Reads (operand left) (operand right) last (get_or stack (suc k) 0) → ⊥
              known_reads (inl s) = answered_known (get_or left last 0) (get_or stack (suc k) 0) e s (w.waits (suc k) (omega arith))
              known_reads (inr s) = answered_known (get_or right last 0) (get_or stack (suc k) 0) f s (w.waits (suc k) (omega arith))

      -- the same from the operands' depths as they were read
      pub turn_back : (last x y a b m : ℕ) → Last left right count stack height last → x ≡ get_or left last 0 → y ≡ get_or right last 0
          → waiting depths x ≡ false → waiting depths y ≡ false → a ≡ depth_at depths x → b ≡ depth_at depths y → m ≡ max a b
          → Turned left right count passed stack height depths passed stack (height - 1) (set depths last (m + 1))
      turn_back last x y a b m at is_x is_y e f is_a is_b is_m =
          let v : m + 1 ≡ suc (max (depth_at depths (get_or left last 0)) (depth_at depths (get_or right last 0))) =
          (let z : m + 1 ≡ suc m = omega arith in z ∙ ap suc (is_m ∙ ap₂ max (is_a ∙ ap (depth_at depths) is_x) (is_b ∙ ap (depth_at depths) is_y))) in
          turn_returns last (m + 1) at (rw is_x at e) (rw is_y at f) v

      pub back_small : (last x y a b m : ℕ) → Last left right count stack height last → x ≡ get_or left last 0 → y ≡ get_or right last 0
          → a ≡ depth_at depths x → b ≡ depth_at depths y → m ≡ max a b → m ≤ count
      back_small last x y a b m at is_x is_y is_a is_b is_m = rw (is_m, is_a, is_b) (deeper_small x y (omega (arith, is_x, at.left_small)) (omega (arith, is_y, at.right_small)))

      -- ---- the end

      -- more gates lead from one to the next than there are
      pub too_high : count < height → Found left right count false depths
      too_high h =
          let walk : Walk (operand left) (operand right) count left_below right_below count (get_or stack 0 0) =
          record { at = λ k. get_or stack k 0; first = refl; few = λ k l. w.gates k (omega arith); step = λ k l. w.steps k (omega arith) } in
          record {
            answers = sym (loop_refused (operand left) (operand right) count left_below right_below (walk_loops (operand left) (operand right) count left_below right_below walk));
            fills = λ e. absurd (false≢true e);
          }

      -- every gate has its depth
      module _ (all : count ≤ passed) where
        done_whole : (i : ℕ) → i < count → Whole left right (gate i) (get_or depths i 0)
        done_whole i h = w.whole i h (w.known i (omega arith))

        done_loopless : loopless (operand left) (operand right) count ≡ true
        done_loopless = by_test (loopless (operand left) (operand right) count)
            (λ e. e)
            (λ e. absurd (
            let l = refused_loop (operand left) (operand right) count left_below right_below e in
            let q = done_whole l.0 l.1 in
            let z = path_lower (operand left) (operand right) (suc (get_or depths l.0 0)) l.2 (omega (arith, q)) in
            omega (arith, z)))

        done_deep : (i : ℕ) → i < count → get_or depths i 0 ≡ deep (operand left) (operand right) count i
        unfolding loopless deep
        done_deep i h =
            let shallow = leb-true (depth (operand left) (operand right) (suc count) (gate i)) count
            (every_at count (λ i. leb (depth (operand left) (operand right) (suc count) (gate i)) count) done_loopless i h) in
            let q = done_whole i h in
            let far : ℕ = suc count + suc (get_or depths i 0) in
            let a = steady (operand left) (operand right) (suc count) far (gate i) (omega (arith, shallow)) (omega arith) in
            let b = steady (operand left) (operand right) (suc (get_or depths i 0)) far (gate i) (omega (arith, q)) (omega arith) in
            sym q ∙ sym b ∙ a

        pub walk_done : Found left right count true depths
        walk_done = record { answers = sym done_loopless; fills = λ e. done_deep }

-- A gate is deeper than there are gates exactly if it leads to a loop: along a path depth falls, and a walk of more gates than there are
-- meets one of them twice. Assumes nothing.
use mathlib.Core.Path.{◌≡◌, refl, sym, ap, ap₂}
use mathlib.Core.Bool.{false}
use mathlib.Core.Logic.{inl, inr, ◌↔◌}
use Prim.Native.Nat.{ℕ, zero, suc, ◌+◌, ◌-◌, ◌<◌, ◌≤◌, max}
use native.Mathlib.Nat.{le-max_left, le-max_right, max-le}
use native.Mathlib.Omega.{arith}
use borrow.Author.Tests.{leb-true, leb-false, lt-leb}
use lib.Dec.{leb}
use Rattle.three.proofs.First.{failing}
use Rattle.three.proofs.Lists.{by_test, every_fails}
use Rattle.drawn.specs.Depth.{Source, leaf, gate, depth, deep, loopless}
use Rattle.drawn.specs.DepthInCode.{Reads, Path, one, more}
use Rattle.three.proofs.Pigeons.{pigeons}

module _ (left right : ℕ → Source) where
  -- ---- depth

  -- a depth that is shown whole stays the same however far it is followed
  pub steady : (f g : ℕ) (s : Source) → depth left right f s < f → f ≤ g → depth left right g s ≡ depth left right f s
  unfolding depth
  steady zero g s h k = absurd (omega arith)
  steady (suc f) zero s h k = absurd (omega arith)
  steady (suc f) (suc g) leaf h k = refl
  steady (suc f) (suc g) (gate i) h k =
      let a = depth left right f (left i) in
      let b = depth left right f (right i) in
      ap₂ (λ (x y : ℕ). suc (max x y)) (steady f g (left i) (omega (arith, le-max_left a b)) (omega arith)) (steady f g (right i) (omega (arith, le-max_right a b)) (omega arith))

  -- Definition 11, where there is no loop
  pub depth_gate : (f i : ℕ) → depth left right f (gate i) < f
      → depth left right f (gate i) ≡ suc (max (depth left right f (left i)) (depth left right f (right i)))
  unfolding depth
  depth_gate zero i h = absurd (omega arith)
  depth_gate (suc f) i h =
      let a = depth left right f (left i) in
      let b = depth left right f (right i) in
      ap₂ (λ (x y : ℕ). suc (max x y)) (sym (steady f (suc f) (left i) (omega (arith, le-max_left a b)) (omega arith))) (sym (steady f (suc f) (right i) (omega (arith, le-max_right a b)) (omega arith)))

  pub depth_leaf : (f : ℕ) → depth left right f leaf ≡ 0
  unfolding depth
  depth_leaf zero = refl
  depth_leaf (suc f) = refl

  -- an operand is less deep
  pub reads_lower : (f : ℕ) {i k : ℕ} → Reads left right i k → depth left right f (gate i) < f → depth left right f (gate k) < depth left right f (gate i)
  reads_lower f {i} {k} (inl e) h = let q = depth_gate f i h in
      omega (arith, q, ap (depth left right f) e, le-max_left (depth left right f (left i)) (depth left right f (right i)))
  reads_lower f {i} {k} (inr e) h = let q = depth_gate f i h in
      omega (arith, q, ap (depth left right f) e, le-max_right (depth left right f (left i)) (depth left right f (right i)))

  pub path_lower : (f : ℕ) {i k : ℕ} → Path left right i k → depth left right f (gate i) < f → depth left right f (gate k) < depth left right f (gate i)
  path_lower f (one r) h = reads_lower f r h
  path_lower f (more r p) h = let a = reads_lower f r h in omega (arith, a, path_lower f p (omega (arith, a)))

  -- ---- a gate without a depth is in front of a loop

  module _ (count : ℕ) (left_below : (i k : ℕ) → i < count → left i ≡ gate k → k < count) (right_below : (i k : ℕ) → i < count → right i ≡ gate k → k < count) where
    record Deeper (n i : ℕ) : Type 0 where
      on : ℕ
      reads : Reads left right i on
      few : on < count
      deep_on : suc n ≤ depth left right (suc n) (gate on)

    deep_gate : (n : ℕ) (s : Source) → suc n ≤ depth left right (suc n) s → (k : ℕ) × (s ≡ gate k) × (suc n ≤ depth left right (suc n) (gate k))
    unfolding depth
    deep_gate n leaf h = absurd (omega arith)
    deep_gate n (gate k) h = (k, refl, h)

    deeper : (n i : ℕ) → i < count → suc (suc n) ≤ depth left right (suc (suc n)) (gate i) → Deeper n i
    unfolding depth
    deeper n i few h = by_test (leb (suc n) (depth left right (suc n) (left i)))
        (λ e. let b = leb-true (suc n) (depth left right (suc n) (left i)) e in
        let d = deep_gate n (left i) b in
        record { on = d.0; reads = inl d.1; few = left_below i d.0 few d.1; deep_on = d.2 })
        (λ e. let a = leb-false (suc n) (depth left right (suc n) (left i)) e in
        let b : suc n ≤ depth left right (suc n) (right i) = go a in
        let d = deep_gate n (right i) b in
        record { on = d.0; reads = inr d.1; few = right_below i d.0 few d.1; deep_on = d.2 })
      where
        go : depth left right (suc n) (left i) < suc n → suc n ≤ depth left right (suc n) (right i)
        go a = by_test (leb (suc n) (depth left right (suc n) (right i)))
            (λ e. leb-true (suc n) (depth left right (suc n) (right i)) e)
            (λ e. absurd (let b = leb-false (suc n) (depth left right (suc n) (right i)) e in
            let c : max (depth left right (suc n) (left i)) (depth left right (suc n) (right i)) ≤ n = max-le (omega (arith, a)) (omega (arith, b)) in
            omega (arith, c, h)))

    behind : ℕ → (ℕ → ℕ) → ℕ → ℕ
    behind i f zero = i
    behind i f (suc k) = f k

    -- n + 1 gates, each an operand of the one before
    pub record Walk (n i : ℕ) : Type 0 where
      pub at : ℕ → ℕ
      pub first : at 0 ≡ i
      pub few : (k : ℕ) → k ≤ n → at k < count
      pub step : (k : ℕ) → k < n → Reads left right (at k) (at (suc k))

    walk : (n i : ℕ) → i < count → suc n ≤ depth left right (suc n) (gate i) → Walk n i
    unfolding behind
    walk zero i h e = record { at = λ k. i; first = refl; few = λ k l. h; step = λ k l. absurd (omega arith) }
    walk (suc n) i h e =
        let d = deeper n i h e in
        let w = walk n d.on d.few d.deep_on in
        record { at = behind i w.at; first = refl; few = few_behind w.at h w.few; step = step_behind w.at (rw w.first d.reads) w.step }
      where
        few_behind : (f : ℕ → ℕ) → i < count → ((k : ℕ) → k ≤ n → f k < count) → (k : ℕ) → k ≤ suc n → behind i f k < count
        few_behind f a b zero l = unfold behind in a
        few_behind f a b (suc k) l = unfold behind in b k (omega arith)

        step_behind : (f : ℕ → ℕ) → Reads left right i (f 0) → ((k : ℕ) → k < n → Reads left right (f k) (f (suc k))) → (k : ℕ) → k < suc n → Reads left right (behind i f k) (behind i f (suc k))
        step_behind f a b zero l = unfold behind in a
        step_behind f a b (suc k) l = unfold behind in b k (omega arith)

    -- from one gate of a walk to a later one
    walked : {n i : ℕ} (w : Walk n i) (k far : ℕ) → k + suc far ≤ n → Path left right (w.at k) (w.at (k + suc far))
    walked w k zero h = let e : k + 1 ≡ suc k = omega arith in rw e (one (w.step k (omega arith)))
    walked w k (suc far) h =
        let e : k + suc (suc far) ≡ suc k + suc far = omega arith in
        rw e (more (w.step k (omega arith)) (walked w (suc k) far (omega arith)))

    -- a walk of more gates than there are has a loop in it
    pub walk_loops : {i : ℕ} → Walk count i → (k : ℕ) × (k < count) × Path left right k k
    walk_loops w =
        let t = pigeons count w.at w.few in
        let gap : t.i + suc (t.j - t.i - 1) ≡ t.j = omega (arith, t.order) in
        let p = walked w t.i (t.j - t.i - 1) (omega (arith, t.order, t.within)) in
        (w.at t.j, w.few t.j t.within, rw t.same at (rw gap at p))

    -- ---- 22 exactly where there is a loop

    abbrev pub Loop : Type 0
    Loop = (k : ℕ) × (k < count) × Path left right k k

    pub loop_refused : Loop → loopless left right count ≡ false
    unfolding loopless deep
    loop_refused (k, h, p) =
        every_fails count _ k h (lt-leb (depth left right (suc count) (gate k)) count
        (by_test (leb (depth left right (suc count) (gate k)) count)
        (λ e. absurd (let a = leb-true (depth left right (suc count) (gate k)) count e in let b = path_lower (suc count) p (omega arith) in omega (arith, b)))
        (λ e. leb-false (depth left right (suc count) (gate k)) count e)))

    pub refused_loop : loopless left right count ≡ false → Loop
    unfolding loopless deep
    refused_loop e =
        let f = failing count (λ i. leb (depth left right (suc count) (gate i)) count) e in
        walk_loops (walk count f.0 f.1 (leb-false (depth left right (suc count) (gate f.0)) count f.2))

    pub loops : (loopless left right count ≡ false) ↔ Loop
    loops = (refused_loop, loop_refused)

-- The test of a chain says that the cubes are one, and where they are one that opens with the resets it passes: so a run's own cubes do, for any
-- circuit that differs in its lamps and bad states alone. Assumes nothing.
use mathlib.Core.Path.{◌≡◌, refl, sym, ap, ap₂, ◌∙◌}
use mathlib.Core.Bool.{true, false, ◌&&◌, ◌||◌}
use mathlib.Core.List.{List, map}
use Prim.Native.Nat.{ℕ, zero, suc, ◌<◌, ◌≤◌}
use borrow.Author.Tests.{leb-true, le-leb, ltb-true, lt-ltb}
use lib.Dec.{leb, ltb}
use lib.ListN.{length}
use Rattle.three.specs.Lists.{every}
use Rattle.three.specs.Cube.{Cube, subsumes}
use Rattle.three.proofs.Lists.{and_parts, every_at, every_all}
use Rattle.three.proofs.Merge.{merged_order, subsumes_length, subsumes_self, subsumes_keeps}
use Rattle.circuit.specs.Circuit.{Circuit, Latch, readings, settle}
use Rattle.cubes.specs.Run.{hold, due, switches_unknown, next_cube, blocked, start_field, resets, start, Stage, reached, store, stage, cube_at, stops, run}
use Rattle.cubes.specs.Given.{same, onward, goes_to, goes_on, starts_chain, is_chain}
use Rattle.cubes.proofs.Blocking.{or_unless, or_either}
use Rattle.cubes.proofs.Following.{Chain}
use Rattle.cubes.proofs.Promise.{run_chain}

-- ---- the same cube

pub same_equal : (a b : Cube) → same a b ≡ true → a ≡ b
unfolding same
same_equal a b e =
    let both = and_parts (subsumes a b) (subsumes b a) e in
    sym (subsumes_keeps a b both.0) ∙ merged_order a b (subsumes_length a b both.0) ∙ subsumes_keeps b a both.1

pub equal_same : {a b : Cube} → a ≡ b → same a b ≡ true
unfolding same
equal_same {a} {b} e = rw (← e, subsumes_self a) refl

-- ---- the test

module _ (c : Circuit) (cubes : ℕ → Cube) (n j : ℕ) where
  -- its three parts
  pub chain_parts : is_chain c cubes n j ≡ true → (j ≤ n) × (starts_chain c cubes n ≡ true) × ((k : ℕ) → k < n → goes_on c cubes n j k ≡ true)
  unfolding is_chain
  chain_parts e =
      let p = and_parts (leb j n) _ e in
      let q = and_parts (starts_chain c cubes n) _ p.1 in
      (leb-true j n p.0, q.0, every_at n (goes_on c cubes n j) q.1)

  pub parts_chain : j ≤ n → starts_chain c cubes n ≡ true → ((k : ℕ) → k < n → goes_on c cubes n j k ≡ true) → is_chain c cubes n j ≡ true
  unfolding is_chain
  parts_chain within starts follows = ap₂ ◌&&◌ (le-leb j n within) (ap₂ ◌&&◌ starts (every_all n (goes_on c cubes n j) follows))

  -- where no constraint is 0
  starts_free : starts_chain c cubes n ≡ true → blocked c (start c) ≡ false → (0 < n) × (cubes 0 ≡ start c)
  unfolding starts_chain
  starts_free e free =
      let p = and_parts (ltb 0 n) _ (or_unless _ _ e free) in
      (ltb-true 0 n p.0, same_equal (cubes 0) (start c) p.1)

  goes_free : (k : ℕ) → goes_on c cubes n j k ≡ true → blocked c (next_cube c (cubes k)) ≡ false
      → (onward n j k < n) × (subsumes (cubes (onward n j k)) (next_cube c (cubes k)) ≡ true)
  unfolding goes_on goes_to
  goes_free k e free =
      let p = and_parts (ltb (onward n j k) n) _ (or_unless _ _ e free) in
      (ltb-true (onward n j k) n p.0, p.1)

  -- cube 0 is the resets, save where a constraint is 0 there
  pub chain_start : is_chain c cubes n j ≡ true → blocked c (start c) ≡ false → cubes 0 ≡ start c
  chain_start e free = (starts_free (chain_parts e).1 free).1

  pub test_chain : ((k : ℕ) → length (cubes k) ≡ length c.latches) → is_chain c cubes n j ≡ true → Chain c cubes n j
  test_chain sized e =
      let p = chain_parts e in
      record {
        sized = sized;
        within = p.0;
        cover = record {
          starts = λ free. let s = starts_free p.1 free in (s.0, rw s.1 (subsumes_self (start c)));
          follows = λ k h. goes_free k (p.2 k h);
        };
      }

  starts_pass : (blocked c (start c) ≡ false → (0 < n) × (cubes 0 ≡ start c)) → starts_chain c cubes n ≡ true
  unfolding starts_chain
  starts_pass f = or_either _ _ (λ free. let there = f free in ap₂ ◌&&◌ (lt-ltb 0 n there.0) (equal_same there.1))

  goes_pass : (k : ℕ) → (blocked c (next_cube c (cubes k)) ≡ false → (onward n j k < n) × (subsumes (cubes (onward n j k)) (next_cube c (cubes k)) ≡ true)) → goes_on c cubes n j k ≡ true
  unfolding goes_on goes_to
  goes_pass k f = or_either _ _ (λ free. let there = f free in ap₂ ◌&&◌ (lt-ltb (onward n j k) n there.0) there.1)

  pub chain_test : Chain c cubes n j → (blocked c (start c) ≡ false → cubes 0 ≡ start c) → is_chain c cubes n j ≡ true
  chain_test chain starts = parts_chain chain.within (starts_pass (λ free. ((chain.cover.starts free).0, starts free))) (λ k h. goes_pass k (chain.cover.follows k h))

-- it looks at the first n cubes alone
pub chain_same : (c : Circuit) (f f' : ℕ → Cube) (n j : ℕ) → ((k : ℕ) → k < n → f k ≡ f' k) → is_chain c f n j ≡ true → is_chain c f' n j ≡ true
chain_same c f f' n j alike e =
    let p = chain_parts c f n j e in
    parts_chain c f' n j p.0
    (starts_pass c f' n j (λ free. let s = starts_free c f n j p.1 free in (s.0, sym (alike 0 s.0) ∙ s.1)))
    (λ k h. goes_pass c f' n j k (λ free. let there = goes_free c f n j k (p.2 k h) (rw (alike k h) free) in (there.0, rw (← alike k h, ← alike (onward n j k) there.0) there.1)))

-- the cubes of a run that stops pass
pub run_is_chain : (c : Circuit) (w room n j : ℕ) → run c w room ≡ stops n j → is_chain c (cube_at c w) n j ≡ true
unfolding cube_at stage
run_is_chain c w room n j stopped = chain_test c (cube_at c w) n j (run_chain c w room n j stopped) (λ free. refl)

-- ---- other lamps and bad states

-- two circuits that differ in these alone
pub record Relit (c d : Circuit) : Type 0 where
  pub inputs : c.inputs ≡ d.inputs
  pub latches : c.latches ≡ d.latches
  pub gates : c.gates ≡ d.gates
  pub constraints : c.constraints ≡ d.constraints

module _ {c d : Circuit} (relit : Relit c d) where
  -- the second with the lamps and bad states of the first
  between : c ≡ record { inputs = d.inputs; latches = d.latches; lamps = c.lamps; gates = d.gates; bads = c.bads; constraints = d.constraints }
  between i = record { inputs = relit.inputs i; latches = relit.latches i; lamps = c.lamps; gates = relit.gates i; bads = c.bads; constraints = relit.constraints i }

  next_relit : (a : Cube) → next_cube c a ≡ next_cube d a
  unfolding next_cube switches_unknown readings settle
  next_relit a = ap (λ (b : Circuit). next_cube b a) between

  blocked_relit : (a : Cube) → blocked c a ≡ blocked d a
  unfolding blocked switches_unknown readings settle
  blocked_relit a = ap (λ (b : Circuit). blocked b a) between

  start_relit : start c ≡ start d
  unfolding start resets
  start_relit = ap (λ (ls : List Latch). map start_field (map (λ (l : Latch). l.reset) ls)) relit.latches

  stage_relit : (w k : ℕ) → stage c w k ≡ stage d w k
  unfolding stage reached
  stage_relit w zero = λ i. record { cube = start_relit i; held = map (λ (l : Latch). false) (relit.latches i) }
  stage_relit w (suc k) = λ i. store (due w (suc k)) (stage_relit w k i) (hold (stage_relit w k i).held (next_relit (stage_relit w k i).cube i))

  pub cube_relit : (w k : ℕ) → cube_at c w k ≡ cube_at d w k
  unfolding cube_at
  cube_relit w k = ap (λ (s : Stage). s.cube) (stage_relit w k)

  pub chain_relit : (f : ℕ → Cube) (n j : ℕ) → is_chain c f n j ≡ is_chain d f n j
  unfolding is_chain starts_chain goes_on goes_to
  chain_relit f n j i =
      leb j n && (((ltb 0 n && same (f 0) (start_relit i)) || blocked_relit (start_relit i) i)
      && every n (λ k. (ltb (onward n j k) n && subsumes (f (onward n j k)) (next_relit (f k) i)) || blocked_relit (next_relit (f k) i) i))

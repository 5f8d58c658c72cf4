-- A closed chain of cubes without X: each is the state of its tick, and an open lamp or bad state is lit at one tick and dark at another. A chain that does
-- not widen, on a board without switches and constraints and with start values, is one. Assumes nothing.
use mathlib.Core.Path.{◌≡◌, refl, sym, ap, ◌∙◌}
use mathlib.Core.Bool.{Bool, true, false, not}
use mathlib.Core.List.{List, [], ◌∷◌, map}
use Prim.Native.Nat.{ℕ, zero, suc, ◌<◌, ◌≤◌}
use native.Mathlib.Omega.{arith}
use lib.ListN.{length, get_or, replicate}
use Rattle.three.specs.Lists.{tabulate, adjust}
use Rattle.three.specs.Value.{unknown, low, code, known, boolean, ternary}
use Rattle.three.specs.Cube.{Cube, blank, known_fields}
use Rattle.circuit.specs.Circuit.{Circuit, Latch, readings, next}
use Rattle.circuit.proofs.Pass.{readings_sized}
use Rattle.circuit.proofs.Sound.{readings_boolean}
use Rattle.cubes.specs.Run.{hold, due, switches_unknown, next_cube, watched, watched_in, start_field, resets, start, reached, widened, store, stage, cube_at, merge, merge_from, verdict}
use Rattle.cubes.specs.Execution.{Execution, settings, state_after, read_after, watched_after}
use Rattle.cubes.specs.Given.{onward}
use Rattle.cubes.specs.Exact.{Certain, Exact, Sometimes}
use Rattle.cubes.proofs.Allowed.{allowed_starts}
use Rattle.cubes.proofs.Reading.{watched_sized}
use Rattle.cubes.proofs.Blocking.{always_lawful}
use Rattle.cubes.proofs.Cover.{visited, visited_covers}
use Rattle.cubes.proofs.Following.{Chain, chain_closed, chain_early}
use Rattle.cubes.proofs.Wider.{cube_sized}
use Rattle.cubes.proofs.Whole.{whole_state, state_whole, Kept, all, differs, kept}

-- ---- without switches, what is read in a state is what really comes

readings_certain : (c : Circuit) (literals : List ℕ) (n : ℕ) → n ≡ 0 → (f : ℕ → Bool) (s : List Bool)
    → readings ternary c literals (replicate n unknown) (map known s) ≡ map known (readings boolean c literals (tabulate n f) s)
unfolding tabulate
readings_certain c literals zero none f s = readings_boolean c literals [] s
readings_certain c literals (suc n) none f s = absurd (omega arith)

-- ---- a closed chain of such cubes

not_unknown : (v : Bool) → known v ≡ unknown → ⊥
unfolding known code
not_unknown false e = let z : ◌≡◌ {A = ℕ} 1 0 = ap code e in omega arith
not_unknown true e = let z : ◌≡◌ {A = ℕ} 2 0 = ap code e in omega arith

get_or_known : (bs : List Bool) (i : ℕ) → i < length bs → get_or (map known bs) i unknown ≡ known (get_or bs i false)
get_or_known [] i h = absurd (omega arith)
get_or_known (b ∷ bs) zero h = refl
get_or_known (b ∷ bs) (suc i) h = get_or_known bs i (omega arith)

module _ {c : Circuit} {cubes : ℕ → Cube} {n j : ℕ} (chain : Chain c cubes n j) (none : c.constraints ≡ []) (single : (k : ℕ) → k < n → known_fields (cubes k) ≡ length c.latches) (e : Execution c) where
  pub chain_exact : Exact cubes n e
  chain_exact = record {
    occurs = λ k h. whole_state (cubes k) (single k h ∙ sym (chain.sized k)) (chain_early chain e k (always_lawful c none e k) h);
    stored = λ t.
        let there = visited_covers chain.cover e t (always_lawful c none e t) in
        (visited 0 (onward n j) t, there.0, whole_state (cubes (visited 0 (onward n j) t)) (single _ there.0 ∙ sym (chain.sized _)) there.1);
  }

  -- without switches the lamps and bad states in cube k are those of tick k
  watched_are : c.inputs ≡ 0 → (k : ℕ) → k < n → watched_in c (cubes k) ≡ map known (watched_after e k)
  unfolding watched_in switches_unknown read_after settings
  watched_are bare k h = ap (watched_in c) (chain_exact.occurs k h) ∙ readings_certain c (watched c) c.inputs bare (e.switches k) (state_after e k)

  pub chain_opens : c.inputs ≡ 0 → (i : ℕ) → i < length (watched c) → get_or (verdict c cubes n) i unknown ≡ unknown
      → Sometimes n (watched_after e) i true × Sometimes n (watched_after e) i false
  unfolding verdict merge_from
  chain_opens bare i h = go n (omega (arith, chain_closed chain none)) refl
    where
      lit : ℕ → Bool
      lit k = get_or (watched_after e k) i false

      many : (k : ℕ) → length (watched_after e k) ≡ length (watched c)
      many k = unfold read_after in readings_sized boolean c _ _ _

      is : (k : ℕ) → k < n → get_or (watched_in c (cubes k)) i unknown ≡ known (lit k)
      is k l = ap (λ (v : Cube). get_or v i unknown) (watched_are bare k l) ∙ get_or_known (watched_after e k) i (omega (arith, h, many k))

      both : (b : Bool) → lit 0 ≡ b → (k : ℕ) → k < n → lit k ≡ not b → Sometimes n (watched_after e) i true × Sometimes n (watched_after e) i false
      both true a k l d = ((0, omega (arith, l), a), (k, l, d))
      both false a k l d = ((k, l, d), (0, omega (arith, l), a))

      ends : (more : ℕ) → n ≡ suc more → Kept lit more (get_or (merge (λ k. watched_in c (cubes k)) 0 more) i unknown) → get_or (merge (λ k. watched_in c (cubes k)) 0 more) i unknown ≡ unknown
          → Sometimes n (watched_after e) i true × Sometimes n (watched_after e) i false
      ends more s (all a) is_x = absurd (not_unknown (lit 0) (sym a ∙ is_x))
      ends more s (differs k l d) is_x = both (lit 0) refl k (omega arith) d

      go : (m : ℕ) → 0 < m → n ≡ m → get_or (merge_from (replicate (length (watched c)) low) (λ k. watched_in c (cubes k)) 0 m) i unknown ≡ unknown → Sometimes n (watched_after e) i true × Sometimes n (watched_after e) i false
      go zero pos s is_x = absurd (omega arith)
      go (suc more) pos s is_x = ends more s (kept (λ k. watched_in c (cubes k)) (length (watched c)) i (λ k. watched_sized c (cubes k)) lit more (λ k l. is k (omega arith))) is_x

-- ---- a chain that does not widen

none : List Latch → List Bool
none ls = map (λ (l : Latch). false) ls

hold_none : (ls : List Latch) (v : Cube) → hold (none ls) v ≡ v
unfolding none hold adjust blank
hold_none [] [] = refl
hold_none [] (x ∷ v) = refl
hold_none (l ∷ ls) [] = refl
hold_none (l ∷ ls) (x ∷ v) = ap (λ (w : Cube). x ∷ w) (hold_none ls v)

start_whole : (rs : List ℕ) → ((i : ℕ) → get_or rs i 0 ≤ 1) → known_fields (map start_field rs) ≡ length (map start_field rs)
unfolding known_fields start_field
start_whole [] known = refl
start_whole (zero ∷ rs) known = ap suc (start_whole rs (λ i. known (suc i)))
start_whole (suc zero ∷ rs) known = ap suc (start_whole rs (λ i. known (suc i)))
start_whole (suc (suc r) ∷ rs) known = absurd (omega (arith, known 0))

module _ (c : Circuit) where
  none_held : (k : ℕ) → (stage c 0 k).held ≡ none c.latches
  unfolding none stage store widened due
  none_held zero = refl
  none_held (suc k) = none_held k

  -- what is looked for is the next state
  pub plain_reached : (k : ℕ) → reached c (stage c 0 k) ≡ next_cube c (cube_at c 0 k)
  unfolding reached cube_at
  plain_reached k = rw (none_held k) (hold_none c.latches _)

  -- each cube is the next state of the one before
  pub plain_next : (k : ℕ) → cube_at c 0 (suc k) ≡ next_cube c (cube_at c 0 k)
  unfolding cube_at stage store widened due reached
  plain_next k = rw (none_held k) (hold_none c.latches _ ∙ hold_none c.latches _)

  module _ (certain : Certain c) (e : Execution c) where
    cube_is_state : (k : ℕ) → cube_at c 0 k ≡ map known (state_after e k)
    unfolding cube_at stage start state_after
    cube_is_state zero = whole_state (start c) (start_whole (resets c) certain.started) (allowed_starts e.allowed)
    cube_is_state (suc k) = plain_next k ∙ ap (next_cube c) (cube_is_state k) ∙ step (state_after e k)
      where
        step : (s : List Bool) → next_cube c (map known s) ≡ map known (next boolean c (settings e k) s)
        step s = unfold next_cube switches_unknown settings in readings_certain c _ c.inputs certain.switchless (e.switches k) s

    pub plain_whole : (k : ℕ) → known_fields (cube_at c 0 k) ≡ length c.latches
    plain_whole k = rw (← cube_is_state k) at (state_whole (state_after e k)) ∙ cube_sized c 0 k

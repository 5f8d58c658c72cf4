-- The resets allow exactly the states inside cube 0, one state where each reset is 0 or 1; from an accepted table every switch sequence has an execution. Assumes nothing.
use mathlib.Core.Path.{◌≡◌, refl, ap₂}
use mathlib.Core.Bool.{Bool, true, false}
use mathlib.Core.List.{List, [], ◌∷◌, map}
use Prim.Native.Nat.{ℕ, zero, suc, ◌+◌, ◌*◌, ◌<◌, ◌≤◌}
use native.Mathlib.Decide.{dec_lt}
use native.Mathlib.Omega.{arith}
use lib.ListN.{get_or}
use Rattle.three.specs.Lists.{Each, empty, also, tabulate}
use Rattle.three.specs.Cube.{Holds, ◌∋◌}
use Rattle.three.proofs.Lists.{get_or_tabulate, get_or_beyond, map_tabulate, each_map}
use Rattle.circuit.specs.declared.Counts.{Counts}
use Rattle.circuit.specs.Table.{circuit_of}
use Rattle.circuit.specs.RulesInCode.{Legal}
use Rattle.cubes.specs.Run.{start_field, resets}
use Rattle.cubes.specs.Execution.{Allows, Execution}

-- ---- one latch

allows_holds : {r : ℕ} {b : Bool} → Allows r b → Holds (start_field r) b
unfolding start_field
allows_holds Allows.off = Holds.off
allows_holds Allows.on = Holds.on
allows_holds Allows.free = Holds.any

holds_allows : (r : ℕ) {b : Bool} → r ≤ 2 → Holds (start_field r) b → Allows r b
unfolding start_field
holds_allows zero small Holds.off = Allows.off
holds_allows (suc zero) small Holds.on = Allows.on
holds_allows (suc (suc zero)) small h = Allows.free
holds_allows (suc (suc (suc r))) small h = absurd (omega arith)

allows_one : {r : ℕ} {a b : Bool} → r ≤ 1 → Allows r a → Allows r b → a ≡ b
allows_one known Allows.off Allows.off = refl
allows_one known Allows.on Allows.on = refl
allows_one known Allows.free Allows.free = absurd (omega arith)

-- a bit that the reset allows
reset_bit : ℕ → Bool
reset_bit zero = false
reset_bit (suc n) = true

bit_holds : (r : ℕ) → Holds (start_field r) (reset_bit r)
unfolding start_field reset_bit
bit_holds zero = Holds.off
bit_holds (suc zero) = Holds.on
bit_holds (suc (suc n)) = Holds.any

-- ---- all of them

-- where no reset is above 1
pub allowed_one : (rs : List ℕ) → ((i : ℕ) → get_or rs i 0 ≤ 1) → {s s' : List Bool} → Each Allows rs s → Each Allows rs s' → s ≡ s'
allowed_one [] known empty empty = refl
allowed_one (r ∷ rs) known (also a as') (also b bs) =
    ap₂ (λ (x : Bool) (xs : List Bool). x ∷ xs) (allows_one (known 0) a b) (allowed_one rs (λ i. known (suc i)) as' bs)

pub allowed_starts : {rs : List ℕ} {s : List Bool} → Each Allows rs s → map start_field rs ∋ s
allowed_starts empty = empty
allowed_starts (also a rest) = also (allows_holds a) (allowed_starts rest)

-- where no reset is above 2
pub starts_allowed : (rs : List ℕ) → ((i : ℕ) → get_or rs i 0 ≤ 2) → {s : List Bool} → map start_field rs ∋ s → Each Allows rs s
starts_allowed [] small empty = empty
starts_allowed (r ∷ rs) small (also h hs) = also (holds_allows r (small 0) h) (starts_allowed rs (λ i. small (suc i)) hs)

-- ---- from an accepted table

module _ (c : Counts) (words : List ℕ) (legal : Legal c words) where
  resets_small : (i : ℕ) → get_or (resets (circuit_of c words)) i 0 ≤ 2
  unfolding resets circuit_of
  resets_small i = rw map_tabulate (go (dec_lt i c.latches))
    where
      reset : ℕ → ℕ
      reset k = get_or words (2 * k + 1) 0

      go : Dec (i < c.latches) → get_or (tabulate c.latches reset) i 0 ≤ 2
      go (yes h) = rw (get_or_tabulate c.latches reset i 0 h) (legal.reset i h)
      go (no h) = rw (get_or_beyond c.latches reset i 0 (omega arith)) (omega arith)

  -- the execution under these switches
  pub executes : (ℕ → ℕ → Bool) → Execution (circuit_of c words)
  executes switches = record {
    switches = switches;
    first = map reset_bit (resets (circuit_of c words));
    allowed = starts_allowed _ resets_small (each_map start_field reset_bit bit_holds (resets (circuit_of c words)));
  }

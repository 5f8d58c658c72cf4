-- Where a constraint is 0 in a cube no legal execution is there; and it is 0 in every narrower cube. Without constraints nothing is blocked, and every
-- execution is legal. Assumes nothing.
use mathlib.Core.Path.{◌≡◌, refl, sym, ap, ◌∙◌}
use mathlib.Core.Bool.{Bool, true, false, ◌||◌, false≢true}
use mathlib.Core.List.{List, []}
use Prim.Native.Nat.{ℕ, suc}
use native.Mathlib.Omega.{arith}
use lib.ListN.{length}
use Rattle.three.specs.Lists.{Each, empty, also, tabulate}
use Rattle.three.specs.Value.{unknown, low, high, code}
use Rattle.three.specs.Cube.{Cube, alike, allows, any, off, on, ◌∋◌}
use Rattle.three.proofs.Lists.{length_tabulate}
use Rattle.three.proofs.Subsuming.{Wider}
use Rattle.circuit.specs.declared.Counts.{Counts}
use Rattle.circuit.specs.Circuit.{Circuit, readings}
use Rattle.circuit.specs.Table.{circuit_of}
use Rattle.circuit.proofs.Narrow.{readings_wider}
use Rattle.cubes.specs.Run.{switches_unknown, some_low, blocked}
use Rattle.cubes.specs.Execution.{Execution, all_lit, state_after, read_after, Lawful}
use Rattle.cubes.proofs.Reading.{read_within}

-- ---- what needs no cover where the second test holds

pub or_unless : (a b : Bool) → (a || b) ≡ true → b ≡ false → a ≡ true
or_unless true b e f = refl
or_unless false b e f = absurd (false≢true (rw f at e))

pub or_either : (a b : Bool) → (b ≡ false → a ≡ true) → (a || b) ≡ true
or_either true b f = refl
or_either false true f = refl
or_either false false f = f refl

-- ---- legal executions

lit_not_low : {cube : Cube} {bits : List Bool} → cube ∋ bits → all_lit bits ≡ true → some_low cube ≡ false
unfolding some_low all_lit alike code
lit_not_low empty e = refl
lit_not_low (also (any {b = true}) hs) e = lit_not_low hs e
lit_not_low (also (any {b = false}) hs) e = absurd (false≢true e)
lit_not_low (also off hs) e = absurd (false≢true e)
lit_not_low (also on hs) e = lit_not_low hs e

module _ {c : Circuit} (e : Execution c) where
  pub lawful_before : (t : ℕ) → Lawful e (suc t) → Lawful e t
  lawful_before t l u h = l u (omega arith)

  pub lawful_free : (t : ℕ) {a : Cube} → Lawful e t → a ∋ state_after e t → blocked c a ≡ false
  unfolding blocked
  lawful_free t l within = lit_not_low (read_within e t within c.constraints) (l t (omega arith))

-- ---- narrower cubes

low_stays : {cube narrow : Cube} → Each Wider cube narrow → some_low cube ≡ true → some_low narrow ≡ true
unfolding some_low allows alike code
low_stays empty e = e
low_stays (also {a = unknown} {b = low} h hs) e = refl
low_stays (also {a = unknown} {b = unknown} h hs) e = low_stays hs e
low_stays (also {a = unknown} {b = high} h hs) e = low_stays hs e
low_stays (also {a = low} {b = low} h hs) e = refl
low_stays (also {a = low} {b = unknown} h hs) e = absurd (false≢true h)
low_stays (also {a = low} {b = high} h hs) e = absurd (false≢true h)
low_stays (also {a = high} {b = low} h hs) e = refl
low_stays (also {a = high} {b = unknown} h hs) e = low_stays hs e
low_stays (also {a = high} {b = high} h hs) e = low_stays hs e

pub blocked_narrow : (c : Circuit) {a b : Cube} → Each Wider a b → blocked c a ≡ true → blocked c b ≡ true
unfolding blocked
blocked_narrow c h e = low_stays (readings_wider c c.constraints (switches_unknown c) h) e

-- ---- no constraints

pub none_counted : (c : Counts) (words : List ℕ) → c.constraints ≡ 0 → (circuit_of c words).constraints ≡ []
unfolding circuit_of tabulate
none_counted c words none = rw none

pub counted_none : (c : Counts) (words : List ℕ) → (circuit_of c words).constraints ≡ [] → c.constraints ≡ 0
unfolding circuit_of
counted_none c words none = sym (length_tabulate c.constraints _) ∙ ap (λ (l : List ℕ). length l) none

module _ (c : Circuit) (none : c.constraints ≡ []) where
  pub never_blocked : (a : Cube) → blocked c a ≡ false
  unfolding blocked readings some_low
  never_blocked a = rw none

  pub always_lawful : (e : Execution c) (t : ℕ) → Lawful e t
  unfolding read_after readings all_lit
  always_lawful e t u h = ap (λ (literals : List ℕ). all_lit (read_after e literals u)) none

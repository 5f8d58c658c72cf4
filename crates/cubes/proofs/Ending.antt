-- Ended chains: with no cube each verdict is never, and with j = n nothing is settled; no cubes are a chain, and a cover, exactly where a constraint is 0 in
-- the start. Assumes nothing.
use mathlib.Core.Path.{◌≡◌, refl, ap, ◌∙◌}
use mathlib.Core.Bool.{and-true}
use Prim.Native.Nat.{ℕ, zero, suc, ◌-◌}
use native.Mathlib.Omega.{arith}
use lib.ListN.{length, replicate}
use Rattle.three.specs.Lists.{every}
use Rattle.three.specs.Value.{unknown, low}
use Rattle.three.specs.Cube.{Cube, known_fields}
use Rattle.circuit.specs.Circuit.{Circuit}
use Rattle.cubes.specs.Run.{watched, blocked, start, merge_from, verdict, settled}
use Rattle.cubes.specs.Given.{is_chain, starts_chain}

pub blank_known : (fields : ℕ) → known_fields (replicate fields unknown) ≡ 0
unfolding known_fields
blank_known zero = refl
blank_known (suc n) = blank_known n

module _ (c : Circuit) (cubes : ℕ → Cube) where
  pub never_all : verdict c cubes 0 ≡ replicate (length (watched c)) low
  unfolding verdict merge_from
  never_all = refl

  pub ended_settles : (n : ℕ) → settled c cubes n n ≡ replicate (length c.latches) unknown
  unfolding settled merge_from
  ended_settles n = let none : n - n ≡ 0 = omega arith in rw none

  pub none_settled : (n : ℕ) → known_fields (settled c cubes n n) ≡ 0
  none_settled n = ap known_fields (ended_settles n) ∙ blank_known (length c.latches)

  pub chain_of_none : is_chain c cubes 0 0 ≡ blocked c (start c)
  unfolding is_chain starts_chain every
  chain_of_none = and-true _

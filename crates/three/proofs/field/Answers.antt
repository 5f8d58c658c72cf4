-- `three::field` meets its contract: the shift takes the pair's digit in base 4. Assumes nothing.
use mathlib.Core.Path.{◌≡◌, refl, sym, ap, ◌∙◌}
use Prim.Native.Nat.{ℕ, ◌*◌, ◌-◌, ◌/◌, ◌%◌, ◌^◌, ◌<◌}
use native.Mathlib.Omega.{arith}
use lib.ListN.{get_or}
use Rattle.three.specs.Lists.{tabulate}
use Rattle.three.specs.Record.{pairs, pair_at}
use Rattle.three.proofs.Table.{same_answers}
use Rattle.three.proofs.Bytes.{pair_digit}
use Rattle.three.proofs.field.Goals as goal

shifted : (byte k : ℕ) → k < 4 → byte / 2 ^ (6 - 2 * k) % 4 ≡ get_or (pairs byte) k 0
unfolding tabulate
shifted byte k h = ap (λ unit. byte / unit % 4) (same_answers 0 (λ k. 2 ^ (6 - 2 * k)) (λ k. 4 ^ (3 - k)) 4 k refl h) ∙ sym (pair_digit byte k h)

pub returns : goal.returns
unfolding pair_at
returns c = shifted _ _ (omega arith)

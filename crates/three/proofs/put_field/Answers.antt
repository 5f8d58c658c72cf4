-- `three::put_field` meets its contract: antt compares the four pairs for each byte, place and value. Assumes nothing.
use mathlib.Core.Path.{◌≡◌, refl}
use mathlib.Core.List.{List, []}
use Prim.Native.Nat.{ℕ, ◌*◌, ◌-◌, ◌%◌, ◌^◌, ◌<◌}
use lib.Bits.{bit_and, bit_or}
use lib.ListN.{set}
use Rattle.three.specs.Lists.{tabulate}
use Rattle.three.specs.Record.{pairs}
use Rattle.three.proofs.Table.{same_answers}
use native.Mathlib.Omega.{arith}
use Rattle.three.proofs.put_field.Goals as goal

-- the byte as the code makes it
abbrev made : ℕ → ℕ → ℕ → ℕ
made place x byte = let unit : ℕ = 2 ^ (6 - 2 * place) in bit_or (bit_and byte (255 - 3 * unit % 256)) (x * unit % 256)

put : (byte place x : ℕ) → byte < 256 → place < 4 → x < 3 → pairs (made place x byte) ≡ set (pairs byte) place x
unfolding tabulate pairs
put byte place x b p v =
    let left : ℕ → ℕ → ℕ → List ℕ = λ p x byte. pairs (made p x byte) in
    let right : ℕ → ℕ → ℕ → List ℕ = λ p x byte. set (pairs byte) p x in
    same_answers [] (left place x) (right place x) 256 byte
    (same_answers [] (λ x. tabulate 256 (left place x)) (λ x. tabulate 256 (right place x)) 3 x
    (same_answers [] (λ p. tabulate 3 (λ x. tabulate 256 (left p x))) (λ p. tabulate 3 (λ x. tabulate 256 (right p x))) 4 place refl p)
    v)
    b

pub returns : goal.returns
returns c = put _ _ _ (omega (arith, c.well_formed)) c.requires.0 c.requires.1

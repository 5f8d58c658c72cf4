use mathlib.Core.Path.{◌≡◌, ◌∙◌}
use mathlib.Core.List.{List}
use Prim.Native.Nat.{ℕ, ◌<◌}
use native.Mathlib.Omega.{arith}
use lib.Bits.{bit_and}
use lib.ListN.{length, get_or}
use Rattle.three.specs.Cube.{merged}
use Rattle.three.specs.Record.{bytes_for, byte_at, unpack}
use Rattle.three.specs.RecordInCode.{IsRecord}
use Rattle.three.proofs.Filling.{fill_next, fill_last}
use Rattle.three.proofs.Pack.{length_unpack, get_or_pack}
use Rattle.three.proofs.Merge.{length_merged}
use Rattle.three.proofs.Bytewise.{and_record}
use Rattle.merging.proofs.store_common.Goals as goal

sized : (f : ℕ) (a b : List ℕ) → length (merged (unpack f a) (unpack f b)) ≡ f
sized f a b = length_merged _ _ ∙ length_unpack f a

byte : (f : ℕ) (a b : List ℕ) (k : ℕ) → k < bytes_for f → IsRecord f a → IsRecord f b → ((i : ℕ) → get_or a i 0 < 256) → ((i : ℕ) → get_or b i 0 < 256)
    → bit_and (get_or a k 0) (get_or b k 0) ≡ byte_at (merged (unpack f a) (unpack f b)) k
byte f a b k h ra rb small_a small_b = and_record f k h a b ra rb small_a small_b ∙ get_or_pack (merged (unpack f a) (unpack f b)) k (rw (sized f a b) h)

pub loop-k-preserved : goal.loop-k-preserved
loop-k-preserved c =
    let pre = c.requires in
    fill_next _ _ (sized _ _ _) _ _ _ _ pre.2 c.loop-k.invariant (omega arith)
    (byte _ _ _ _ (omega arith) pre.0 pre.1 (λ i. (c.type_inv.a i).fits) (λ i. (c.type_inv.b i).fits))

pub returns : goal.returns
returns c = fill_last _ _ (sized _ _ _) _ _ _ c.loop-k.invariant (omega arith)

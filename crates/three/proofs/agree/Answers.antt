use mathlib.Core.Path.{◌≡◌, ap, ◌∙◌}
use mathlib.Core.List.{List}
use Prim.Native.Nat.{ℕ, ◌+◌, ◌<◌, ◌≤◌}
use native.Mathlib.Nat.{zero-add}
use native.Mathlib.Omega.{arith}
use lib.Bits.{bit_and}
use lib.ListN.{length, get_or, set}
use Rattle.three.specs.Lists.{over}
use Rattle.three.specs.Record.{bytes_for}
use Rattle.three.specs.RecordInCode.{IsRecord}
use Rattle.three.proofs.Loops.{stored_first, stored_next, stored_last, over_paste, get_or_paste}
use Rattle.three.proofs.Pack.{length_pack, length_unpack}
use Rattle.three.proofs.Merge.{length_merged}
use Rattle.three.proofs.Bytewise.{and_record}
use Rattle.three.proofs.agree.Invariants.{common, Filled}
use Rattle.three.proofs.agree.Goals as goal

length_common : (f : ℕ) (a b : List ℕ) → length (common f a b) ≡ bytes_for f
length_common f a b = rw (length_pack, length_merged, length_unpack)

last : (f : ℕ) (a b e : List ℕ) (k : ℕ) → Filled f a b e k → bytes_for f ≤ k → e ≡ over (common f a b) a
last f a b e k st h = rw (← length_common f a b) at (stored_last a 0 (common f a b) (bytes_for f) e k st h) ∙ over_paste a (common f a b)

module _ (f : ℕ) (a b : List ℕ) (ra : IsRecord f a) (rb : IsRecord f b) (small_a : (i : ℕ) → get_or a i 0 < 256) (small_b : (i : ℕ) → get_or b i 0 < 256) where
  next : (e : List ℕ) (k : ℕ) → Filled f a b e k → k < bytes_for f → Filled f a b (set e k (bit_and (get_or e k 0) (get_or b k 0))) (k + 1)
  next e k st h =
      let long = length_common f a b in
      let fits = ra.fits in
      let kept : get_or e k 0 ≡ get_or a k 0 = ap (λ l. get_or l k 0) st.same ∙ get_or_paste a 0 (common f a b) k k 0 (omega arith) (omega arith) (omega arith) in
      let common_byte = and_record f k h a b ra rb small_a small_b in
      rw zero-add at
      (stored_next a 0 (common f a b) (bytes_for f) (omega arith) (omega arith) e k (bit_and (get_or e k 0) (get_or b k 0)) 0 st h (rw kept common_byte))

pub loop-k-init : goal.loop-k-init
loop-k-init c = stored_first _ _ _ _

pub loop-k-preserved : goal.loop-k-preserved
loop-k-preserved c =
    next _ _ _ c.requires.0 c.requires.1 (λ i. (c.slice_known-1.given i).fits) (λ i. (c.shared_slice_known-1.given i).fits) _ _ c.loop-k.invariant (omega arith)

pub shape_of-bytes : goal.shape_of-bytes
shape_of-bytes c = c.loop-k.invariant.long

pub returns : goal.returns
returns c = last _ _ _ _ _ c.loop-k.invariant (omega arith)

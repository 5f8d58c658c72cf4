-- Laws of the held-latch record: setting held latches to X and holding more of them, byte by byte. Assumes nothing.
use mathlib.Core.Path.{◌≡◌, refl, sym, ap, ◌∙◌}
use mathlib.Core.Bool.{Bool, true, false}
use mathlib.Core.List.{List, ◌++◌}
use Prim.Native.Nat.{ℕ, zero, suc, ◌+◌, ◌/◌, ◌%◌, ◌<◌, ◌≤◌}
use native.Mathlib.Omega.{arith}
use lib.Bits.{bit_or, bit_xor, and_le_r}
use lib.Dec.{eqb}
use lib.ListN.{length, get_or, set, take, drop}
use lib.Seq.{paste, length-paste}
use Rattle.three.specs.Value.{code, known}
use Rattle.three.proofs.Loops.{Stored, get_or_paste, front_length, front_at}
use Rattle.three.proofs.Lists.{length_tabulate, get_or_tabulate}
use Rattle.stored.specs.CubesInCode.{raised_bytes}
use Rattle.stored.proofs.Filled.{filled_next, filled_front}
use Rattle.cubes.specs.HeldInCode.{differing_byte}
use Rattle.cubes.specs.Run.{due}
use Rattle.chain.specs.ChainInCode.{widened_bytes, held_after}

-- ---- a due number

pub never_due : (w k : ℕ) → w ≡ 0 → false ≡ due w k
unfolding due
never_due w k e = rw e

pub due_divides : (w k : ℕ) → (w ≡ 0 → ⊥) → eqb (k % w) 0 ≡ due w k
unfolding due
due_divides zero k h = absurd (h refl)
due_divides (suc w) k h = refl

-- ---- its mark

pub mark_due : {d : Bool} → d ≡ true → 2 ≡ code (known d)
unfolding known code
mark_due e = rw e

pub mark_plain : {d : Bool} → d ≡ false → 1 ≡ code (known d)
unfolding known code
mark_plain e = rw e

pub stored_marked : {d e : Bool} {m : ℕ} (cubes cubes' : List ℕ) (at len : ℕ) (last : List ℕ) → cubes' ≡ paste cubes at (raised_bytes len m last) len → m ≡ code (known d) → d ≡ e
    → cubes' ≡ paste cubes at (raised_bytes len (code (known e)) last) len
stored_marked cubes cubes' at len last s em ed = s ∙ ap (λ (m : ℕ). paste cubes at (raised_bytes len m last) len) (em ∙ ap (λ (d : Bool). code (known d)) ed)

-- ---- the loops

pub differing_small : (x y : ℕ) → differing_byte x y < 256
unfolding differing_byte
differing_small x y = omega (arith, and_le_r (bit_or (bit_xor x y) (bit_xor x y / 2)) 85)

module _ (len : ℕ) (held last b : List ℕ) where
  abbrev wide : List ℕ
  wide = widened_bytes len held last b

  length_wide : length wide ≡ len
  unfolding widened_bytes
  length_wide = length_tabulate len _

  module _ (room : len ≤ length held) {wider : List ℕ} {i : ℕ} (s : Stored (take len held) 0 wide len wider i) where
    long : length (take len held) ≡ len
    long = front_length len held room

    pub widen_next : {d : ℕ} → i < length (take len held) → d ≡ differing_byte (get_or last i 0) (get_or b i 0) → Stored (take len held) 0 wide len (set wider i (bit_or (get_or wider i 0) d)) (i + 1)
    unfolding widened_bytes
    widen_next {d} h e =
        let kept : get_or wider i 0 ≡ get_or held i 0 =
        ap (λ l. get_or l i 0) s.same ∙ get_or_paste (take len held) 0 wide i i 0 (omega arith) (omega (arith, length_wide, long)) (omega arith) ∙ front_at len held room i 0 h in
        let seen : bit_or (get_or wider i 0) d ≡ get_or wide i 0 = rw (kept, e) (sym (get_or_tabulate len _ i 0 (omega (arith, long)))) in
        filled_next long (omega (arith, length_wide)) s h seen

    pub widen_last : length (take len held) ≤ i → wider ++ drop len held ≡ paste held 0 wide len
    widen_last = filled_front long (omega (arith, length_wide)) s held

-- ---- more latches held, or the same

module _ {d : Bool} (len : ℕ) (held a b : List ℕ) where
  pub held_same : d ≡ false → held ≡ held_after d len held a b
  unfolding held_after
  held_same e = rw e

  pub held_wider : d ≡ true → paste held 0 (widened_bytes len held a b) len ≡ held_after d len held a b
  unfolding held_after
  held_wider e = rw e

pub due_held : {d e : Bool} (len : ℕ) (held a b : List ℕ) → d ≡ e → held_after d len held a b ≡ held_after e len held a b
due_held len held a b q = ap (λ d. held_after d len held a b) q

pub held_long : (d : Bool) (len : ℕ) (held a b : List ℕ) → len ≤ length held → length (held_after d len held a b) ≡ length held
unfolding held_after
held_long true len held a b room = length-paste held 0 _ len (omega arith) (omega (arith, length_wide len held a b))
held_long false len held a b room = refl

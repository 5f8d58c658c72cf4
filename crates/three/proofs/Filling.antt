-- A loop that fills a buffer with the record of these fields, a byte of four fields each turn. Assumes nothing.
use mathlib.Core.Path.{◌≡◌, sym, ap, ◌∙◌}
use mathlib.Core.List.{List}
use Prim.Native.Nat.{ℕ, ◌+◌, ◌*◌, ◌<◌, ◌≤◌}
use native.Mathlib.Nat.{zero-add}
use native.Mathlib.Omega.{arith}
use lib.ListN.{length, get_or, set, get_or-eq_default}
use Rattle.three.specs.Lists.{over}
use Rattle.three.specs.Value.{Three, unknown, code, decode}
use Rattle.three.specs.Cube.{Cube}
use Rattle.three.specs.Record.{bytes_for, byte_of, byte_at, pack}
use Rattle.three.proofs.Loops.{Stored, stored_next, stored_last, over_paste}
use Rattle.three.proofs.Bytes.{code_small, decode_code}
use Rattle.three.proofs.Pack.{length_pack, get_or_pack}

-- what a code says of its value
pub is_small : {r : ℕ} (v : Three) → r ≡ code v → r < 3
is_small v e = rw e (code_small v)

pub is_decoded : {r : ℕ} (v : Three) → r ≡ code v → decode r ≡ v
is_decoded v e = rw e (decode_code v)

-- equal fields are stored alike
pub over_fields : {out : List ℕ} (buffer : List ℕ) {fields fields' : Cube} → out ≡ over (pack fields) buffer → fields ≡ fields' → out ≡ over (pack fields') buffer
over_fields buffer e f = e ∙ ap (λ (x : Cube). over (pack x) buffer) f

module _ (fields : Cube) where
  -- a field beyond them is X
  pub field_beyond : (i : ℕ) → length fields ≤ i → 0 ≡ code (get_or fields i unknown)
  unfolding code
  field_beyond i h = ap code (sym (get_or-eq_default fields unknown h))

  -- four fields make a byte
  pub four_fields : (k : ℕ) {a b c d r : ℕ}
      → a ≡ code (get_or fields (4 * k) unknown)
      → b ≡ code (get_or fields (4 * k + 1) unknown)
      → c ≡ code (get_or fields (4 * k + 2) unknown)
      → d ≡ code (get_or fields (4 * k + 3) unknown)
      → r ≡ byte_of (decode a) (decode b) (decode c) (decode d)
      → r ≡ byte_at fields k
  unfolding byte_at
  four_fields k ea eb ec ed e = rw (is_decoded _ ea, is_decoded _ eb, is_decoded _ ec, is_decoded _ ed) at e

  module _ (f : ℕ) (sized : length fields ≡ f) (out₀ : List ℕ) where
    length_bytes : length (pack fields) ≡ bytes_for f
    length_bytes = rw (length_pack, sized)

    pub fill_next : (out : List ℕ) (k byte : ℕ) → bytes_for f ≤ length out₀ → Stored out₀ 0 (pack fields) (bytes_for f) out k → k < bytes_for f → byte ≡ byte_at fields k
        → Stored out₀ 0 (pack fields) (bytes_for f) (set out k byte) (k + 1)
    fill_next out k byte room s h e =
        rw zero-add at (stored_next out₀ 0 (pack fields) (bytes_for f) (omega arith) (omega (arith, length_bytes)) out k byte 0 s h (e ∙ sym (get_or_pack fields k (rw sized h))))

    pub fill_last : (out : List ℕ) (k : ℕ) → Stored out₀ 0 (pack fields) (bytes_for f) out k → bytes_for f ≤ k → out ≡ over (pack fields) out₀
    fill_last out k s h = stored_last out₀ 0 (pack fields) (bytes_for f) out k s h ∙ rw (← length_bytes) (over_paste out₀ (pack fields))

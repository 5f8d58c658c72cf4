-- Laws of a record: its length, its bytes, and its fields read back. Assumes nothing.
use mathlib.Core.Path.{◌≡◌, refl, sym, ap, ◌∙◌}
use mathlib.Core.List.{List}
use Prim.Native.Nat.{ℕ, zero, suc, ◌+◌, ◌*◌, ◌/◌, ◌%◌, ◌<◌}
use native.Mathlib.Nat.{add-zero}
use native.Mathlib.Omega.{arith}
use borrow.Author.Tests.{eqb-true, eqb-false}
use lib.Dec.{eqb}
use lib.ListN.{length, get_or, set, take, drop}
use lib.Seq.{get_or-take, take_at, get_or-set_same, get_or-set_other}
use Rattle.three.specs.Lists.{over}
use Rattle.three.specs.Value.{unknown, code, decode}
use Rattle.three.specs.Cube.{Cube}
use Rattle.three.specs.Record.{bytes_for, byte_at, pack, pairs, pair_at, unpack}
use Rattle.three.proofs.Lists.{by_test, length_tabulate, get_or_tabulate, tabulate_ext, tabulate_get_or, tabulate_set}
use Rattle.three.proofs.Bytes.{pairs_byte, decode_code}

-- ---- the record of given fields

pub length_pack : (fs : Cube) → length (pack fs) ≡ bytes_for (length fs)
unfolding pack
length_pack fs = length_tabulate (bytes_for (length fs)) (byte_at fs)

pub get_or_pack : (fs : Cube) (k : ℕ) → k < bytes_for (length fs) → get_or (pack fs) k 0 ≡ byte_at fs k
unfolding pack
get_or_pack fs k h = get_or_tabulate (bytes_for (length fs)) (byte_at fs) k 0 h

pub byte_at_pair : (fs : Cube) (k j : ℕ) → j < 4 → get_or (pairs (byte_at fs k)) j 0 ≡ code (get_or fs (4 * k + j) unknown)
unfolding byte_at
byte_at_pair fs k zero h = rw (pairs_byte, add-zero)
byte_at_pair fs k (suc zero) h = rw pairs_byte
byte_at_pair fs k (suc (suc zero)) h = rw pairs_byte
byte_at_pair fs k (suc (suc (suc zero))) h = rw pairs_byte
byte_at_pair fs k (suc (suc (suc (suc j)))) h = absurd (omega arith)

pub pair_pack : (fs : Cube) (i : ℕ) → i < 4 * bytes_for (length fs) → pair_at (pack fs) i ≡ code (get_or fs i unknown)
unfolding pair_at
pair_pack fs i h =
    let whole : 4 * (i / 4) + i % 4 ≡ i = omega arith in
    ap (λ b. get_or (pairs b) (i % 4) 0) (get_or_pack fs (i / 4) (omega arith))
    ∙ byte_at_pair fs (i / 4) (i % 4) (omega arith)
    ∙ ap (λ n. code (get_or fs n unknown)) whole

-- ---- the fields of a record

pub length_unpack : (f : ℕ) (bytes : List ℕ) → length (unpack f bytes) ≡ f
unfolding unpack
length_unpack f bytes = length_tabulate f (λ i. decode (pair_at bytes i))

pub unpack_pack : (fs : Cube) → unpack (length fs) (pack fs) ≡ fs
unfolding unpack
unpack_pack fs =
    tabulate_ext (length fs) (λ i. decode (pair_at (pack fs) i)) (λ i. get_or fs i unknown) (λ i h. ap decode (pair_pack fs i (omega arith)) ∙ decode_code (get_or fs i unknown))
    ∙ tabulate_get_or fs unknown

pub pair_take : (n : ℕ) (bytes : List ℕ) (i : ℕ) → i < 4 * n → pair_at (take n bytes) i ≡ pair_at bytes i
unfolding pair_at
pair_take n bytes i h = ap (λ b. get_or (pairs b) (i % 4) 0) (get_or-take n bytes (i / 4) 0 (omega arith))

pub unpack_take : (f : ℕ) (bytes : List ℕ) → unpack f (take (bytes_for f) bytes) ≡ unpack f bytes
unfolding unpack
unpack_take f bytes = tabulate_ext f (λ i. decode (pair_at (take (bytes_for f) bytes) i)) (λ i. decode (pair_at bytes i)) (λ i h. ap decode (pair_take (bytes_for f) bytes i (omega arith)))

pub take_over : (f : ℕ) (fs : Cube) (d : List ℕ) → length fs ≡ f → take (bytes_for f) (over (pack fs) d) ≡ pack fs
unfolding over
take_over f fs d e = take_at (pack fs) (drop (length (pack fs)) d) (bytes_for f) (rw (length_pack, e))

pub unpack_over : (f : ℕ) (fs : Cube) (d : List ℕ) → length fs ≡ f → unpack f (over (pack fs) d) ≡ fs
unpack_over f fs d e = sym (unpack_take f (over (pack fs) d)) ∙ ap (unpack f) (take_over f fs d e) ∙ rw (← e) (unpack_pack fs)

-- ---- one field replaced in its byte

module _ (bytes : List ℕ) (v x byte : ℕ) (h : v < 4 * length bytes) (put : pairs byte ≡ set (pairs (get_or bytes (v / 4) 0)) (v % 4) x) where
  pair_byte : (i : ℕ) → i / 4 ≡ v / 4 → pair_at (set bytes (v / 4) byte) i ≡ get_or (set (pairs (get_or bytes (v / 4) 0)) (v % 4) x) (i % 4) 0
  unfolding pair_at
  pair_byte i e = rw (e, get_or-set_same bytes (v / 4) byte 0 (omega arith), put)

  pub pair_put : pair_at (set bytes (v / 4) byte) v ≡ x
  unfolding pairs
  pair_put = pair_byte v refl ∙ get_or-set_same (pairs (get_or bytes (v / 4) 0)) (v % 4) x 0 (omega arith)

  pub pair_kept : (i : ℕ) → (i ≡ v → ⊥) → pair_at (set bytes (v / 4) byte) i ≡ pair_at bytes i
  unfolding pair_at
  pair_kept i other =
      by_test (eqb (i / 4) (v / 4))
      (λ t. let e = eqb-true (i / 4) (v / 4) t in pair_byte i e ∙ get_or-set_other (pairs (get_or bytes (v / 4) 0)) (v % 4) (i % 4) x 0 (λ q. other (omega arith)) ∙ rw e)
      (λ t. ap (λ b. get_or (pairs b) (i % 4) 0) (get_or-set_other bytes (v / 4) (i / 4) byte 0 (eqb-false (i / 4) (v / 4) t)))

  pub unpack_put : (f : ℕ) → unpack f (set bytes (v / 4) byte) ≡ set (unpack f bytes) v (decode x)
  unfolding unpack
  unpack_put f = tabulate_set f _ _ v (ap decode pair_put) (λ i other. ap decode (pair_kept i other))

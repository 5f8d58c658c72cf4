-- On packed records AND of bytes is the merge, and the test that it keeps every byte of a stored record is subsumption. Assumes nothing.
use mathlib.Core.Path.{◌≡◌, refl, sym, ap, ap₂, ◌∙◌}
use mathlib.Core.Bool.{Bool}
use mathlib.Core.List.{List}
use Prim.Native.Nat.{ℕ, ◌+◌, ◌*◌, ◌<◌}
use native.Mathlib.Omega.{arith}
use borrow.Author.Tests.{eqb-true, eq-eqb}
use lib.Bits.{bit_and, and_block}
use lib.Dec.{eqb}
use lib.ListN.{length, get_or}
use lib.Seq.{get_or-take, ext_get_or}
use Rattle.three.specs.Lists.{every}
use Rattle.three.specs.Value.{Three, code}
use Rattle.three.specs.Cube.{Cube, alike, blank, agree, merged, subsumes}
use Rattle.three.specs.Record.{bytes_for, byte_of, byte_at, pack, unpack}
use Rattle.three.specs.RecordInCode.{IsRecord}
use Rattle.three.proofs.Lists.{iff, every_at, every_all}
use Rattle.three.proofs.Bytes.{code_small}
use Rattle.three.proofs.Pack.{length_pack, get_or_pack, unpack_pack, length_unpack}
use Rattle.three.proofs.Soundness.{pack_unpack}
use Rattle.three.proofs.Fields.{of_two}
use Rattle.three.proofs.Merge.{get_or_merged, length_merged, subsumes_keeps, keeps_subsumes}

-- ---- a field, then a byte

pub and_code : (a b : Three) → bit_and (code a) (code b) ≡ code (agree a b)
unfolding agree blank alike code
and_code a b = eqb-true _ _ (of_two (λ a b. eqb (bit_and (code a) (code b)) (code (agree a b))) refl a b)

-- one field more at the low end of both
and_next : (x y : ℕ) (a b : Three) → bit_and (x * 4 + code a) (y * 4 + code b) ≡ bit_and x y * 4 + code (agree a b)
and_next x y a b =
    let small_a = code_small a in
    let small_b = code_small b in
    and_block 2 x y (code a) (code b) (omega arith) (omega arith) ∙ ap (λ n. bit_and x y * 4 + n) (and_code a b)

nested : (a b c d : Three) → byte_of a b c d ≡ ((code a * 4 + code b) * 4 + code c) * 4 + code d
unfolding byte_of
nested a b c d = omega arith

pub and_byte : (a b c d e f g h : Three) → bit_and (byte_of a b c d) (byte_of e f g h) ≡ byte_of (agree a e) (agree b f) (agree c g) (agree d h)
and_byte a b c d e f g h = rw (nested a b c d, nested e f g h, nested, and_next, and_next, and_next, and_code)

-- ---- a record

pub and_pack : (a b : Cube) → length a ≡ length b → (k : ℕ) → k < bytes_for (length a) → bit_and (get_or (pack a) k 0) (get_or (pack b) k 0) ≡ get_or (pack (merged a b)) k 0
unfolding byte_at
and_pack a b e k h =
    let long = length_merged a b in
    ap₂ bit_and (get_or_pack a k h) (get_or_pack b k (omega arith)) ∙ and_byte _ _ _ _ _ _ _ _
    ∙ sym (get_or_pack (merged a b) k (omega arith) ∙ simp get_or_merged)

module _ (f k : ℕ) (h : k < bytes_for f) where
  -- a given record's bytes are those of its fields
  repacked : (bytes : List ℕ) → IsRecord f bytes → ((i : ℕ) → get_or bytes i 0 < 256) → get_or bytes k 0 ≡ get_or (pack (unpack f bytes)) k 0
  repacked bytes r small = sym (ap (λ l. get_or l k 0) (pack_unpack f bytes r.fits small r.good) ∙ get_or-take (bytes_for f) bytes k 0 h)

  pub and_record : (a b : List ℕ) → IsRecord f a → IsRecord f b → ((i : ℕ) → get_or a i 0 < 256) → ((i : ℕ) → get_or b i 0 < 256)
      → bit_and (get_or a k 0) (get_or b k 0) ≡ get_or (pack (merged (unpack f a) (unpack f b))) k 0
  and_record a b ra rb small_a small_b =
      let long_a = length_unpack f a in
      let long_b = length_unpack f b in
      ap₂ bit_and (repacked a ra small_a) (repacked b rb small_b) ∙ and_pack (unpack f a) (unpack f b) (omega arith) k (omega arith)

-- equal bytes are equal records
pack_same : (a b : Cube) → length a ≡ length b → ((k : ℕ) → k < bytes_for (length a) → get_or (pack a) k 0 ≡ get_or (pack b) k 0) → a ≡ b
pack_same a b e same =
    let long_a = length_pack a in
    let long_b = length_pack b in
    sym (unpack_pack a) ∙ ap₂ unpack e (ext_get_or 0 (pack a) (pack b) (omega arith) (λ k h. same k (omega arith))) ∙ unpack_pack b

-- byte k of a stored record keeps all its bits
abbrev pub covers : List ℕ → List ℕ → ℕ → Bool
covers cs bs k = eqb (bit_and (get_or cs k 0) (get_or bs k 0)) (get_or cs k 0)

pub covers_subsumes : (c b : Cube) → length c ≡ length b → every (bytes_for (length c)) (covers (pack c) (pack b)) ≡ subsumes c b
covers_subsumes c b e =
    let n : ℕ = bytes_for (length c) in
    let test : ℕ → Bool = covers (pack c) (pack b) in
    let long = length_merged c b in
    iff (every n test) (subsumes c b)
    (λ t. keeps_subsumes c b e (pack_same (merged c b) c long (λ k h. sym (and_pack c b e k (omega arith)) ∙ eqb-true _ _ (every_at n test t k (omega arith)))))
    (λ t. every_all n test (λ k h. eq-eqb _ _ (and_pack c b e k h ∙ ap (λ v. get_or (pack v) k 0) (subsumes_keeps c b t))))

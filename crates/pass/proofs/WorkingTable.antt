-- Laws of the working table, of a literal's value, and of the records that are loaded into it and stored from it. Assumes nothing.
use mathlib.Core.Path.{◌≡◌, refl, sym, ap, ◌∙◌}
use mathlib.Core.List.{List, [], ◌∷◌}
use Prim.Native.Nat.{ℕ, zero, suc, ◌+◌, ◌*◌, ◌/◌, ◌%◌, ◌<◌, ◌≤◌}
use native.Mathlib.Omega.{arith}
use borrow.Author.Tests.{eqb-true, eqb-false}
use lib.Dec.{eqb}
use lib.ListN.{length, get_or, set, take, replicate, length-set, length-replicate}
use lib.Seq.{get_or-set_same, get_or-set_other}
use Rattle.three.specs.Record.{pairs, pair_at, unpack}
use Rattle.three.specs.RecordInCode.{IsRecord}
use Rattle.three.specs.Lists.{tabulate}
use Rattle.three.specs.Value.{Three, unknown, low, code, decode, ternary}
use Rattle.three.proofs.Loops.{Stored, stored_next}
use Rattle.three.proofs.Lists.{by_test, length_tabulate, get_or_tabulate, tabulate_ext}
use Rattle.three.proofs.Table.{entry_of_row}
use Rattle.three.proofs.Bytes.{code_small, code_decode, decode_code}
use Rattle.three.proofs.Pack.{length_unpack, unpack_put}
use Rattle.three.proofs.Soundness.{sound_pair}
use Rattle.circuit.specs.Circuit.{signed, value}
use Rattle.pass.specs.ValuesInCode.{values_of, fresh_values, Working, Holding, Begins, sign_table, literal_values}

-- ---- a variable read, and written

pub variable_value : (table : List ℕ) (v : ℕ) → v < 4096 → Working table → pair_at table v ≡ code (get_or (values_of table) v low)
unfolding values_of unpack
variable_value table v h w = sym (code_decode _ (w.codes v)) ∙ ap code (sym (get_or_tabulate (4 * length table) _ v low (omega (arith, w.long))))

-- a pair that is set among those of a byte, at any place, leaves no pair 11 there
set_small : (ps : List ℕ) (p x i : ℕ) → x < 3 → get_or ps i 0 < 3 → get_or (set ps p x) i 0 < 3
set_small [] p x i s h = h
set_small (q ∷ ps) zero x zero s h = s
set_small (q ∷ ps) zero x (suc i) s h = h
set_small (q ∷ ps) (suc p) x zero s h = h
set_small (q ∷ ps) (suc p) x (suc i) s h = set_small ps p x i s h

-- so the table stays one, whichever pair of the byte is replaced
pub put_works : (table : List ℕ) (v x byte p : ℕ) → v < 4096 → x < 3 → Working table → pairs byte ≡ set (pairs (get_or table (v / 4) 0)) p x
    → Working (set table (v / 4) byte)
unfolding pair_at
put_works table v x byte p h s w put = record {
  long = rw (length-set table (v / 4) byte) w.long;
  codes = λ i. by_test (eqb (i / 4) (v / 4))
      (λ t. let e = eqb-true (i / 4) (v / 4) t in
      rw (e, get_or-set_same table (v / 4) byte 0 (omega (arith, w.long)), put) (set_small (pairs (get_or table (v / 4) 0)) p x (i % 4) s (rw e at (w.codes i))))
      (λ t. rw (get_or-set_other table (v / 4) (i / 4) byte 0 (eqb-false (i / 4) (v / 4) t)) (w.codes i));
}

pub put_holds : (table : List ℕ) (v x byte : ℕ) → v < 4096 → x < 3 → Working table → pairs byte ≡ set (pairs (get_or table (v / 4) 0)) (v % 4) x
    → Holding (set table (v / 4) byte) (set (values_of table) v (decode x))
unfolding values_of
put_holds table v x byte h s w put =
    let room : v < 4 * length table = omega (arith, w.long) in
    record {
      working = put_works table v x byte (v % 4) h s w put;
      same = rw (length-set table (v / 4) byte) (unpack_put table v x byte room put (4 * length table));
    }

pub length_values : (table : List ℕ) → length (values_of table) ≡ 4 * length table
unfolding values_of
length_values table = length_unpack (4 * length table) table

-- ---- a new working table

-- zeros are pairs 00
zero_pair : (n i : ℕ) → pair_at (replicate n 0) i ≡ 0
unfolding pair_at pairs
zero_pair n i = ap (λ byte. get_or (pairs byte) (i % 4) 0) (at n (i / 4)) ∙ at 4 (i % 4)
  where
    at : (n k : ℕ) → get_or {A = ℕ} (replicate n 0) k 0 ≡ 0
    at zero k = refl
    at (suc n) zero = refl
    at (suc n) (suc k) = at n k

all_unknown : (m : ℕ) → tabulate m (λ i. unknown) ≡ replicate m unknown
unfolding tabulate
all_unknown zero = refl
all_unknown (suc m) = ap (λ l. unknown ∷ l) (all_unknown m)

zeros_unknown : (n m : ℕ) → unpack m (replicate n 0) ≡ replicate m unknown
unfolding unpack decode
zeros_unknown n m = tabulate_ext m _ (λ i. unknown) (λ i h. ap decode (zero_pair n i)) ∙ all_unknown m

pub fresh_working : Working (replicate 1024 0)
fresh_working = record { long = ap (λ n. 4 * n) (length-replicate {A = ℕ} 1024 0); codes = λ v. rw (zero_pair 1024 v) (omega arith) }

pub fresh_holds : (table : List ℕ) → Holding table (set (values_of (replicate 1024 0)) 0 (decode 1)) → Holding table fresh_values
unfolding values_of fresh_values decode
fresh_holds table put = record {
  working = put.working;
  same = put.same ∙ ap (λ (l : List Three). set l 0 low) (zeros_unknown 1024 _ ∙ ap (λ n. replicate (4 * n) unknown) (length-replicate {A = ℕ} 1024 0));
}

take_replicate : (m n : ℕ) → m ≤ n → take m (replicate n unknown) ≡ replicate m unknown
take_replicate zero n h = refl
take_replicate (suc m) zero h = absurd (omega arith)
take_replicate (suc m) (suc n) h = ap (λ l. unknown ∷ l) (take_replicate m n (omega arith))

-- it begins with the constant and any number of X
pub fresh_begins : (table : List ℕ) (n : ℕ) → n < 4096 → Holding table fresh_values → Begins table (low ∷ replicate n unknown)
unfolding fresh_values
fresh_begins table n h holds = record {
  working = holds.working;
  same =
      ap (λ (k : ℕ). take (suc k) (values_of table)) (length-replicate n unknown)
      ∙ ap (take (suc n)) holds.same
      ∙ ap (λ (l : List Three). low ∷ l) (take_replicate n 4095 (omega arith));
}

-- ---- a literal's value

module _ (values : List Three) (x : ℕ) where
  -- read through the table of signs
  pub value_signed : get_or (get_or sign_table (x % 2) []) (code (get_or values (x / 2) low)) 0 ≡ code (value ternary values x)
  unfolding value sign_table ternary
  value_signed =
      entry_of_row 0 (λ sign v. code (signed ternary sign (decode v))) 2 3 (x % 2) _ (omega arith) (code_small _)
      ∙ ap (λ v. code (signed ternary (x % 2) v)) (decode_code _)

-- ---- a record's fields, loaded in turn

pub field_small : (bytes : List ℕ) (count i : ℕ) {x : ℕ} → IsRecord count bytes → i < count → x ≡ pair_at bytes i → x < 3
field_small bytes count i r h e = rw e (sound_pair count bytes r.good i (omega arith))

pub load_next : (bytes : List ℕ) (first count : ℕ) (table₀ : List ℕ) → first + count ≤ 4096 → Working table₀
    → (vs : List Three) (i x : ℕ) → Stored (values_of table₀) first (unpack count bytes) count vs i → i < count → x ≡ pair_at bytes i
    → Stored (values_of table₀) first (unpack count bytes) count (set vs (first + i) (decode x)) (i + 1)
unfolding unpack
load_next bytes first count table₀ room w vs i x s h e =
    stored_next _ _ _ _ (omega (arith, length_values table₀, w.long)) (omega (arith, length_unpack count bytes)) vs i (decode x) unknown s h
    (ap decode e ∙ sym (get_or_tabulate count _ i unknown h))

-- ---- literals' values, stored as a record

module _ (values : List Three) (words : List ℕ) (at step count : ℕ) where
  pub length_literals : length (literal_values values words at step count) ≡ count
  unfolding literal_values
  length_literals = length_tabulate count _

  pub literal_within : (i : ℕ) → i < count → value ternary values (get_or words (at + step * i) 0) ≡ get_or (literal_values values words at step count) i unknown
  unfolding literal_values
  literal_within i h = sym (get_or_tabulate count _ i unknown h)

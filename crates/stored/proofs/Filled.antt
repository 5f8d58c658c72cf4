-- A loop over bytes of a buffer that stores a list in them, each turn the next byte. Assumes nothing.
use mathlib.Core.Path.{◌≡◌, sym, ap, ◌∙◌}
use mathlib.Core.List.{List, [], ◌++◌, append-nil}
use Prim.Native.Nat.{ℕ, ◌+◌, ◌-◌, ◌<◌, ◌≤◌}
use native.Mathlib.Nat.{zero-add}
use native.Mathlib.Omega.{arith}
use lib.ListN.{length, get_or, set, take, drop}
use lib.Seq.{paste, take-length}
use borrow.Rule.Slice.PartMut.{put_mid}
use Rattle.std.proofs.lemmas.List.{drop_all}
use Rattle.std.proofs.lemmas.Slice.{put_mid-paste}
use Rattle.three.specs.Lists.{over}
use Rattle.three.specs.Cube.{Cube}
use Rattle.three.specs.Record.{bytes_for, byte_at, pack}
use Rattle.three.proofs.Loops.{Stored, stored_next, stored_last, over_paste, front_length}
use Rattle.three.proofs.Pack.{length_pack, get_or_pack}

module _ {d s : List ℕ} {n : ℕ} (long : length d ≡ n) (room : n ≤ length s) {e : List ℕ} {i : ℕ} (c : Stored d 0 s n e i) where
  pub filled_next : {v : ℕ} → i < length d → v ≡ get_or s i 0 → Stored d 0 s n (set e i v) (i + 1)
  filled_next {v} h q = rw zero-add at (stored_next d 0 s n (omega (arith, long)) room e i v 0 c (omega (arith, long)) q)

  filled_all : length d ≤ i → e ≡ take n s
  filled_all h =
      let beyond : drop n d ≡ [] = drop_all n d (omega (arith, long)) in
      stored_last d 0 s n e i c (omega (arith, long)) ∙ ap (λ (l : List ℕ). take n s ++ l) (rw zero-add beyond) ∙ append-nil (take n s)

  -- they are the bytes from number p on, or the first
  pub filled_last : (t : List ℕ) (p : ℕ) → n ≡ length s → length d ≤ i → put_mid p (p + n - p) t e ≡ paste t p s n
  filled_last t p whole h =
      let all : take n s ≡ s = rw whole (take-length s) in
      put_mid-paste p (p + n - p) t e s n (filled_all h ∙ all) (omega arith) whole

  pub filled_front : (t : List ℕ) → length d ≤ i → e ++ drop n t ≡ paste t 0 s n
  filled_front t h = rw zero-add (ap (λ (l : List ℕ). l ++ drop n t) (filled_all h))

-- where the list is a record, of the length that the code has
module _ (fields : Cube) {f m : ℕ} (sized : length fields ≡ f) (is : m ≡ bytes_for f) (t : List ℕ) (room : bytes_for f ≤ length t) {e : List ℕ} {i : ℕ} (c : Stored (take m t) 0 (pack fields) (bytes_for f) e i) where
  pub front : length (take m t) ≡ bytes_for f
  front = rw is (front_length (bytes_for f) t room)

  packed : length (pack fields) ≡ bytes_for f
  packed = rw (length_pack, sized)

  pub packed_next : {v : ℕ} → i < length (take m t) → v ≡ byte_at fields i → Stored (take m t) 0 (pack fields) (bytes_for f) (set e i v) (i + 1)
  packed_next h q = filled_next front (omega (arith, packed)) c h (q ∙ sym (get_or_pack fields i (rw sized (omega (arith, front)))))

  pub packed_last : length (take m t) ≤ i → e ++ drop m t ≡ over (pack fields) t
  packed_last h = ap (λ (n : ℕ). e ++ drop n t) is ∙ filled_front front (omega (arith, packed)) c t h ∙ rw (← packed) (over_paste t (pack fields))

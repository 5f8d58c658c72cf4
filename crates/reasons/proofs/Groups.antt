-- Consecutive cubes with the same explanation: when two are the same, and the group that a loop is in. Assumes nothing.
use mathlib.Core.Path.{◌≡◌, refl, sym, ap, ◌∙◌}
use mathlib.Core.Bool.{Bool, true, false}
use mathlib.Core.List.{List, [], ◌++◌, append-nil}
use Prim.Native.Nat.{ℕ, zero, suc, ◌+◌, ◌-◌, ◌≤◌, ◌<◌}
use native.Mathlib.Omega.{arith}
use native.Mathlib.Nat.{zero-add}
use native.Mathlib.Numerals.{add-one}
use borrow.Author.Tests.{eqb-true, eq-eqb}
use lib.Dec.{eqb}
use Rattle.std.specs.Bool.{MatchBool}
use Rattle.std.specs.List.{range_with_len, AllWithin, HoldsAt}
use Rattle.std.proofs.lemmas.List.FromFn.{length-range_with_len, get_or-range_with_len}
use lib.ListN.{length, get_or}
use Rattle.three.specs.Lists.{every, over}
use Rattle.three.specs.Value.{unknown, code}
use Rattle.three.specs.Cube.{Cube, alike, subsumes}
use Rattle.three.specs.Record.{bytes_for, pack, pair_at}
use Rattle.three.proofs.Lists.{iff, and_parts, every_at, every_all, every_fails, tabulate_ext, tabulate_get_or}
use Rattle.three.proofs.Fields.{alike_same}
use Rattle.three.proofs.Merge.{subsumes_self}
use Rattle.three.proofs.Subsuming.{subsumes_both}
use Rattle.three.proofs.Pack.{pair_pack, pair_take, take_over}
use Rattle.cubes.specs.Given.{same}
use Rattle.reasons.specs.Reasons.{line, told, told_from}

-- ---- two that are the same

pub same_equal : (a b : Cube) → same a b ≡ true → a ≡ b
unfolding same
same_equal a b h = let p = and_parts (subsumes a b) (subsumes b a) h in subsumes_both a b p.0 p.1

same_self : (a : Cube) → same a a ≡ true
unfolding same
same_self a = rw (subsumes_self a)

-- whether all of a range hold, from what a search of it found
pub all_of_range : (n : ℕ) (p : ℕ → Bool) (r : Bool)
    → MatchBool r (AllWithin (λ i. p i ≡ true) (range_with_len 0 n) 0 (length (range_with_len 0 n))) ((k : ℕ) × (k < length (range_with_len 0 n)) × HoldsAt (λ i. p i ≡ false) (range_with_len 0 n) k)
    → r ≡ every n p
all_of_range n p true h =
    sym (every_all n p (λ i l. sym (ap p (get_or-range_with_len 0 n i 0 l ∙ zero-add i)) ∙ h i 0 (omega arith) (omega (arith, length-range_with_len 0 n))))
all_of_range n p false (k, l, h) =
    let within : k < n = omega (arith, length-range_with_len 0 n) in
    sym (every_fails n p k within (sym (ap p (get_or-range_with_len 0 n k 0 within ∙ zero-add k)) ∙ h 0))

-- the pairs of a record that was stored
stored_pair : (f : ℕ) (v : Cube) (d : List ℕ) → length v ≡ f → (i : ℕ) → i < f → pair_at (over (pack v) d) i ≡ code (get_or v i unknown)
stored_pair f v d e i h =
    sym (pair_take (bytes_for f) (over (pack v) d) i (omega arith))
    ∙ ap (λ (bytes : List ℕ). pair_at bytes i) (take_over f v d e)
    ∙ pair_pack v i (omega arith)

pub same_pairs : (f : ℕ) (a b : Cube) (d e : List ℕ) → length a ≡ f → length b ≡ f
    → every f (λ i. eqb (pair_at (over (pack a) d) i) (pair_at (over (pack b) e) i)) ≡ same a b
unfolding alike
same_pairs f a b d e la lb = iff _ (same a b)
    (λ h. ap (same a) (sym (equal h)) ∙ same_self a)
    (λ h. every_all f _ (λ i l. eq-eqb _ _ (stored_pair f a d la i l ∙ ap (λ (v : Cube). code (get_or v i unknown)) (same_equal a b h) ∙ sym (stored_pair f b e lb i l))))
  where
    equal : every f (λ i. eqb (pair_at (over (pack a) d) i) (pair_at (over (pack b) e) i)) ≡ true → a ≡ b
    equal h =
        sym (tabulate_get_or a unknown)
        ∙ tabulate_ext (length a) _ _ (λ i l. alike_same _ _ (eq-eqb _ _ (sym (stored_pair f a d la i (omega arith)) ∙ eqb-true _ _ (every_at f _ h i (omega arith)) ∙ stored_pair f b e lb i (omega arith))))
        ∙ rw (la ∙ sym lb) (tabulate_get_or b unknown)

-- ---- the group that goes from cube `from` to cube k at least

module _ (why : ℕ → Cube) (n from : ℕ) where
  pub record Group (k : ℕ) : Type 0 where
    pub after : from ≤ k
    pub below : k < n
    pub alike : why k ≡ why from
    pub rest : told_from why n from ≡ told why from k (n - suc k)

  -- what comes after a group that ends with cube k
  pub record Ends (k : ℕ) : Type 0 where
    pub after : from ≤ k
    pub below : k < n
    pub rest : told_from why n from ≡ line from k (why from) ++ told_from why n (k + 1)

  some_left : (k : ℕ) → k < n → n - k ≡ suc (n - suc k)
  some_left k h = omega arith

  from_more : (k : ℕ) → k < n → told_from why n k ≡ told why k k (n - suc k)
  unfolding told_from
  from_more k h = ap (λ (m : ℕ). elim m [ zero ↦ [] | suc more ↦ told why k k more ]) (some_left k h)

  from_none : (k : ℕ) → n ≤ k → told_from why n k ≡ []
  unfolding told_from
  from_none k h = let none : n - k ≡ 0 = omega arith in ap (λ (m : ℕ). elim m [ zero ↦ [] | suc more ↦ told why k k more ]) none

  pub group_first : from < n → Group from
  group_first h = record { after = omega arith; below = h; alike = refl; rest = from_more from h }

  module _ {k : ℕ} (g : Group k) where
    pub group_next : k + 1 < n → same (why from) (why (k + 1)) ≡ true → Group (k + 1)
    unfolding told
    group_next h s = record {
      after = omega (arith, g.after);
      below = h;
      alike = sym (same_equal _ _ s);
      rest = rw (add-one) (g.rest ∙ rw (some_left (suc k) (omega arith), rw (← g.alike, add-one) at s) refl);
    }

    pub group_ends : k + 1 < n → same (why from) (why (k + 1)) ≡ false → Ends k
    unfolding told
    group_ends h s = record {
      after = g.after;
      below = g.below;
      rest = rw (add-one, from_more (suc k) (omega arith)) (g.rest ∙ rw (some_left (suc k) (omega arith), rw (← g.alike, add-one) at s, g.alike) refl);
    }

    pub group_last : n ≤ k + 1 → Ends k
    unfolding told
    group_last h =
        let last : n - suc k ≡ 0 = omega (arith, g.below) in
        record { after = g.after; below = g.below; rest = g.rest ∙ rw (from_none (k + 1) h, last, g.alike) (sym (append-nil _)) }

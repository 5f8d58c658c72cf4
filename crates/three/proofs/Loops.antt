-- The two loops that most functions have: one stores a list into another, one tests each number and leaves at the first that fails. Assumes nothing.
use mathlib.Core.Path.{◌≡◌, refl, sym, ap, ap₂, ◌∙◌}
use mathlib.Core.Bool.{Bool, true, false}
use mathlib.Core.List.{List}
use Prim.Native.Nat.{ℕ, ◌+◌, ◌-◌, ◌<◌, ◌≤◌}
use native.Mathlib.Nat.{not-suc-le-zero, zero-add}
use native.Mathlib.Numerals.{add-one}
use native.Mathlib.Omega.{arith}
use borrow.Author.Count.{below_more}
use lib.ListN.{length, get_or, set, take, drop, length-set}
use Rattle.std.proofs.lemmas.List.{get_or-take, length-take, length-take-le, length-drop}
use lib.Seq.{paste, paste-zero, paste-suc, drop-paste, get_or-drop, take-length}
use Rattle.three.specs.Lists.{every, over}
use Rattle.three.proofs.Lists.{every_fails, every_all}

-- ---- a loop that stores the first n items of s into d from index p on: i of them are stored

module _ {A : Type 0} (d : List A) (p : ℕ) (s : List A) (n : ℕ) where
  pub record Stored (e : List A) (i : ℕ) : Type 0 where
    pub within : i ≤ n
    pub long : length e ≡ length d
    pub same : e ≡ paste d p s i

  pub stored_first : Stored d 0
  stored_first = record { within = omega arith; long = refl; same = paste-zero d p s }

  pub stored_next : p + n ≤ length d → n ≤ length s → (e : List A) (i : ℕ) (v z : A) → Stored e i → i < n → v ≡ get_or s i z → Stored (set e (p + i) v) (i + 1)
  stored_next room from e i v z c h q = record {
    within = omega arith;
    long = length-set e (p + i) v ∙ c.long;
    same = ap₂ (λ (l : List A) (w : A). set l (p + i) w) c.same q ∙ paste-suc d p s i z (omega arith) (omega arith) ∙ rw add-one;
  }

  pub stored_last : (e : List A) (i : ℕ) → Stored e i → n ≤ i → e ≡ paste d p s n
  stored_last e i c h = let i= : i ≡ n = omega (arith, c.within) in rw (← i=) c.same

-- what lies beyond the stored items stays
pub get_or_paste : {A : Type 0} (d : List A) (p : ℕ) (s : List A) (n i : ℕ) (z : A) → p ≤ length d → n ≤ length s → p + n ≤ i → get_or (paste d p s n) i z ≡ get_or d i z
get_or_paste d p s n i z room from h =
    let place : p + n + (i - (p + n)) ≡ i = omega arith in
    rw (← place) (sym (get_or-drop (p + n) (paste d p s n) (i - (p + n)) z) ∙ ap (λ l. get_or l (i - (p + n)) z) (drop-paste d p s n room from) ∙ get_or-drop (p + n) d (i - (p + n)) z)

-- all of s, from the front
pub over_paste : {A : Type 0} (d s : List A) → paste d 0 s (length s) ≡ over s d
unfolding over
over_paste d s = rw (take-length, zero-add)

-- ---- a loop that tests p at each number below n, and stops at the first that fails: it has passed i

module _ (n : ℕ) (p : ℕ → Bool) where
  pub record Tried (i : ℕ) : Type 0 where
    pub within : i ≤ n
    pub held : (k : ℕ) → k < i → p k ≡ true

  pub tried_first : Tried 0
  tried_first = record { within = omega arith; held = λ k h. absurd (not-suc-le-zero h) }

  pub tried_next : {i : ℕ} {r : Bool} → Tried i → i < n → r ≡ p i → r ≡ true → Tried (i + 1)
  tried_next {i} t h e q = record { within = omega arith; held = below_more _ i t.held (sym e ∙ q) }

  pub tried_fails : {i : ℕ} {r : Bool} → i < n → r ≡ p i → r ≡ false → false ≡ every n p
  tried_fails {i} h e q = sym (every_fails n p i h (sym e ∙ q))

  pub tried_all : {i : ℕ} → Tried i → n ≤ i → true ≡ every n p
  tried_all t h = sym (every_all n p (λ k l. t.held k (omega (arith, t.within))))

-- ---- a loop over the first n elements of a list

module _ {A : Type 0} (n : ℕ) (l : List A) (fits : n ≤ length l) where
  pub front_length : length (take n l) ≡ n
  front_length = length-take-le n l fits

  pub front_at : (i : ℕ) (d : A) → i < length (take n l) → get_or (take n l) i d ≡ get_or l i d
  front_at i d h = get_or-take n l i d (omega (arith, front_length))

-- the same for the n elements from number a on
module _ {A : Type 0} (a n : ℕ) (l : List A) (fits : a + n ≤ length l) where
  pub range_length : length (take (a + n - a) (drop a l)) ≡ n
  range_length = length-take (a + n - a) (drop a l) ∙ omega (arith, length-drop a l)

  pub range_at : (i : ℕ) (d : A) → i < n → get_or (take (a + n - a) (drop a l)) i d ≡ get_or l (a + i) d
  range_at i d h = get_or-take (a + n - a) (drop a l) i d (omega arith) ∙ get_or-drop a l i d

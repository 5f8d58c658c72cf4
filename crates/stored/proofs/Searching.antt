-- The search over stored records, turn by turn: k records are passed, and i bytes of the next. Assumes nothing.
use mathlib.Core.Path.{◌≡◌, refl, sym, ap}
use mathlib.Core.Bool.{Bool, false}
use mathlib.Core.List.{List}
use Rattle.std.specs.Prelude.{None, Some}
use Prim.Native.Nat.{ℕ, ◌+◌, ◌*◌, ◌<◌, ◌≤◌}
use native.Mathlib.Nat.{mul-le-mul_right, suc-mul, zero-mul, not-suc-le-zero}
use native.Mathlib.Numerals.{add-one}
use native.Mathlib.Omega.{arith}
use borrow.Author.Count.{below_more}
use borrow.Author.Tests.{eq-eqb, ne_eqb}
use lib.Bits.{bit_and}
use lib.Dec.{eqb}
use lib.ListN.{length, get_or}
use Rattle.three.specs.Lists.{first}
use Rattle.three.proofs.First.{first_at, first_none}
use Rattle.three.proofs.Lists.{every_all, every_fails}
use Rattle.three.proofs.Loops.{Tried, tried_first, tried_next}
use Rattle.stored.specs.CubesInCode.{covers_from, FoundFirst}

module _ (cubes b : List ℕ) (len n : ℕ) where
  -- byte i of the record at `at` has no bit that b's has not
  abbrev pub inside : ℕ → ℕ → Bool
  inside at i = eqb (bit_and (get_or cubes (at + i) 0) (get_or b i 0)) (get_or cubes (at + i) 0)

  -- the record number k covers b
  abbrev pub covering : ℕ → Bool
  covering k = covers_from len cubes b (k * len)

  pub record Outer (k at : ℕ) : Type 0 where
    pub within : k ≤ n
    pub place : at ≡ k * len
    pub none : (m : ℕ) → m < k → covering m ≡ false

  pub record Inner (k at i : ℕ) : Type 0 where
    pub outer : Outer k at
    pub more : k < n
    pub room : at + len ≤ length cubes
    pub tried : Tried len (inside at) i

  module _ (all : n * len ≤ length cubes) where
    pub outer_first : Outer 0 0
    outer_first = record { within = omega arith; place = rw zero-mul; none = λ m h. absurd (not-suc-le-zero h) }

    pub inner_first : (k at : ℕ) → Outer k at → (k ≡ n → ⊥) → Inner k at 0
    inner_first k at o h =
        let k< : k < n = omega (arith, o.within) in
        record { outer = o; more = k<; room = omega (arith, mul-le-mul_right len k<, suc-mul k len, o.place); tried = tried_first _ _ }

    pub inner_next : (k at i : ℕ) → Inner k at i → i < len → bit_and (get_or cubes (at + i) 0) (get_or b i 0) ≡ get_or cubes (at + i) 0 → Inner k at (i + 1)
    inner_next k at i v h e = record { outer = v.outer; more = v.more; room = v.room; tried = tried_next _ _ v.tried h refl (eq-eqb _ _ e) }

    pub clash : (k at i : ℕ) → Inner k at i → i < len → (bit_and (get_or cubes (at + i) 0) (get_or b i 0) ≡ get_or cubes (at + i) 0 → ⊥) → Outer (k + 1) (at + len)
    unfolding covers_from
    clash k at i v h e =
        let o = v.outer in
        record {
          within = omega (arith, v.more);
          place = omega (arith, o.place, suc-mul k len, ap (λ (x : ℕ). x * len) (add-one k));
          none = below_more _ k o.none (rw (← o.place) (every_fails len (inside at) i h (ne_eqb _ _ e)));
        }

    pub found : (k at i : ℕ) → Inner k at i → len ≤ i → FoundFirst n (first n covering) (Some k)
    unfolding covers_from
    found k at i v h =
        let o = v.outer in
        (sym (first_at n covering k v.more (rw (← o.place) (every_all len (inside at) (λ m l. v.tried.held m (omega arith)))) o.none), v.more)

    pub missing : (k at : ℕ) → Outer k at → k ≡ n → FoundFirst n (first n covering) None
    missing k at o h = omega (arith, first_none n covering (λ m l. o.none m (omega arith)))

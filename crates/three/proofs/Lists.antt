-- Laws of lists from functions, of tests of every number, of item-by-item changes and relations, and of a loop that fills a list. Assumes nothing.
use mathlib.Core.Path.{◌≡◌, refl, sym, ap, ap₂, ◌∙◌}
use mathlib.Core.Bool.{Bool, true, false, ◌&&◌, ◌||◌, false≢true, true≢false}
use mathlib.Core.List.{List, [], ◌∷◌, ◌++◌, map}
use Prim.Native.Nat.{ℕ, zero, suc, ◌+◌, ◌<◌, ◌≤◌, suc-le-suc}
use native.Mathlib.Nat.{le_of_suc-le-suc, not-suc-le-zero, zero-add, suc-add}
use native.Mathlib.Omega.{arith}
use lib.ListN.{length, get_or, set}
use Rattle.three.specs.Lists.{tabulate, every, adjust, Each, empty, also}

-- ---- tests

-- two tests that hold together are equal
pub iff : (a b : Bool) → (a ≡ true → b ≡ true) → (b ≡ true → a ≡ true) → a ≡ b
iff true b f g = sym (f refl)
iff false true f g = g refl
iff false false f g = refl

pub and_parts : (a b : Bool) → (a && b) ≡ true → (a ≡ true) × (b ≡ true)
and_parts true b e = (refl, e)
and_parts false b e = absurd (false≢true e)

pub or_parts : (a b : Bool) → (a || b) ≡ false → (a ≡ false) × (b ≡ false)
or_parts true b e = absurd (true≢false e)
or_parts false b e = (refl, e)

-- a proof by the two values of a test
pub by_test {ℓ} : {P : Type ℓ} (b : Bool) → (b ≡ true → P) → (b ≡ false → P) → P
by_test true f g = f refl
by_test false f g = g refl

-- ---- tabulate

pub length_tabulate {ℓ} : {A : Type ℓ} (n : ℕ) (f : ℕ → A) → length (tabulate n f) ≡ n
unfolding tabulate
length_tabulate zero f = refl
length_tabulate (suc n) f = ap suc (length_tabulate n (λ i. f (suc i)))

pub get_or_tabulate {ℓ} : {A : Type ℓ} (n : ℕ) (f : ℕ → A) (i : ℕ) (d : A) → i < n → get_or (tabulate n f) i d ≡ f i
unfolding tabulate
get_or_tabulate zero f i d h = absurd (not-suc-le-zero h)
get_or_tabulate (suc n) f zero d h = refl
get_or_tabulate (suc n) f (suc i) d h = get_or_tabulate n (λ k. f (suc k)) i d (le_of_suc-le-suc h)

pub get_or_beyond {ℓ} : {A : Type ℓ} (n : ℕ) (f : ℕ → A) (i : ℕ) (d : A) → n ≤ i → get_or (tabulate n f) i d ≡ d
unfolding tabulate
get_or_beyond zero f i d h = refl
get_or_beyond (suc n) f zero d h = absurd (not-suc-le-zero h)
get_or_beyond (suc n) f (suc i) d h = get_or_beyond n (λ k. f (suc k)) i d (le_of_suc-le-suc h)

pub map_tabulate {ℓ κ} : {A : Type ℓ} {B : Type κ} (g : A → B) (n : ℕ) (f : ℕ → A) → map g (tabulate n f) ≡ tabulate n (λ i. g (f i))
unfolding tabulate
map_tabulate g zero f = refl
map_tabulate g (suc n) f = ap (λ l. g (f zero) ∷ l) (map_tabulate g n (λ i. f (suc i)))

-- functions that agree below n
pub tabulate_ext {ℓ} : {A : Type ℓ} (n : ℕ) (f g : ℕ → A) → ((i : ℕ) → i < n → f i ≡ g i) → tabulate n f ≡ tabulate n g
unfolding tabulate
tabulate_ext zero f g h = refl
tabulate_ext (suc n) f g h = ap₂ (λ x l. x ∷ l) (h zero (omega arith)) (tabulate_ext n (λ i. f (suc i)) (λ i. g (suc i)) (λ i k. h (suc i) (suc-le-suc k)))

-- a list is its items
pub tabulate_get_or {ℓ} : {A : Type ℓ} (l : List A) (d : A) → tabulate (length l) (λ i. get_or l i d) ≡ l
unfolding tabulate
tabulate_get_or [] d = refl
tabulate_get_or (x ∷ l) d = ap (λ m. x ∷ m) (tabulate_get_or l d)

-- the first m, and those behind them
pub tabulate_append {ℓ} : {A : Type ℓ} (m n : ℕ) (f : ℕ → A) → tabulate (m + n) f ≡ tabulate m f ++ tabulate n (λ i. f (m + i))
unfolding tabulate
tabulate_append zero n f = ap (λ k. tabulate k f) (zero-add n) ∙ tabulate_ext n f (λ i. f (zero + i)) (λ i h. ap f (sym (zero-add i)))
tabulate_append (suc m) n f =
    ap (λ k. tabulate k f) (suc-add m n)
    ∙ ap (λ l. f zero ∷ l) (tabulate_append m n (λ i. f (suc i)) ∙ ap (λ l. tabulate m (λ i. f (suc i)) ++ l) (tabulate_ext n _ _ (λ i h. ap f (sym (suc-add m i)))))

-- a function that differs at v alone
pub tabulate_set : {A : Type 0} (n : ℕ) (f g : ℕ → A) (v : ℕ) {a : A} → g v ≡ a → ((i : ℕ) → (i ≡ v → ⊥) → g i ≡ f i) → tabulate n g ≡ set (tabulate n f) v a
unfolding tabulate
tabulate_set zero f g v e h = refl
tabulate_set (suc n) f g zero e h = ap₂ (λ x l. x ∷ l) e (tabulate_ext n (λ i. g (suc i)) (λ i. f (suc i)) (λ i k. h (suc i) (λ q. omega arith)))
tabulate_set (suc n) f g (suc v) e h = ap₂ (λ x l. x ∷ l) (h zero (λ q. omega arith)) (tabulate_set n (λ i. f (suc i)) (λ i. g (suc i)) v e (λ i k. h (suc i) (λ q. k (omega arith))))

-- within a list the default does not matter
pub get_or_any : {A : Type 0} (l : List A) (i : ℕ) (d e : A) → i < length l → get_or l i d ≡ get_or l i e
get_or_any [] i d e h = absurd (not-suc-le-zero h)
get_or_any (x ∷ l) zero d e h = refl
get_or_any (x ∷ l) (suc i) d e h = get_or_any l i d e (le_of_suc-le-suc h)

-- ---- every

pub every_at : (n : ℕ) (p : ℕ → Bool) → every n p ≡ true → (i : ℕ) → i < n → p i ≡ true
unfolding every
every_at zero p e i h = absurd (not-suc-le-zero h)
every_at (suc n) p e zero h = (and_parts (p zero) _ e).0
every_at (suc n) p e (suc i) h = every_at n (λ k. p (suc k)) (and_parts (p zero) _ e).1 i (le_of_suc-le-suc h)

pub every_all : (n : ℕ) (p : ℕ → Bool) → ((i : ℕ) → i < n → p i ≡ true) → every n p ≡ true
unfolding every
every_all zero p h = refl
every_all (suc n) p h = rw (h zero (omega arith)) (every_all n (λ k. p (suc k)) (λ i k. h (suc i) (suc-le-suc k)))

pub every_fails : (n : ℕ) (p : ℕ → Bool) (i : ℕ) → i < n → p i ≡ false → every n p ≡ false
every_fails n p i h e = by_test (every n p) (λ t. absurd (true≢false (sym (every_at n p t i h) ∙ e))) (λ t. t)

-- tests that agree below n
pub every_ext : (n : ℕ) (p q : ℕ → Bool) → ((i : ℕ) → i < n → p i ≡ q i) → every n p ≡ every n q
unfolding every
every_ext zero p q h = refl
every_ext (suc n) p q h = ap₂ (λ x y. x && y) (h zero (omega arith)) (every_ext n (λ i. p (suc i)) (λ i. q (suc i)) (λ i k. h (suc i) (suc-le-suc k)))

-- ---- adjust

pub length_adjust : {A B : Type 0} (f : A → B → A) (xs : List A) (ys : List B) → length (adjust f xs ys) ≡ length xs
unfolding adjust
length_adjust f [] ys = refl
length_adjust f (x ∷ xs) [] = refl
length_adjust f (x ∷ xs) (y ∷ ys) = ap suc (length_adjust f xs ys)

-- ---- Each

pub each_get_or : {A B : Type 0} {R : A → B → Type 0} {xs : List A} {ys : List B} → Each R xs ys → {d : A} {e : B} → R d e → (i : ℕ) → R (get_or xs i d) (get_or ys i e)
each_get_or empty r i = r
each_get_or (also s rs) r zero = s
each_get_or (also s rs) r (suc i) = each_get_or rs r i

pub each_self : {A : Type 0} {R : A → A → Type 0} → ((x : A) → R x x) → (l : List A) → Each R l l
each_self same [] = empty
each_self same (x ∷ l) = also (same x) (each_self same l)

pub each_append : {A B : Type 0} {R : A → B → Type 0} {xs us : List A} {ys vs : List B} → Each R xs ys → Each R us vs → Each R (xs ++ us) (ys ++ vs)
each_append empty ss = ss
each_append (also r rs) ss = also r (each_append rs ss)

pub each_map : {A B C : Type 0} {R : A → B → Type 0} (f : C → A) (g : C → B) → ((x : C) → R (f x) (g x)) → (l : List C) → Each R (map f l) (map g l)
each_map f g h [] = empty
each_map f g h (x ∷ l) = also (h x) (each_map f g h l)

pub each_adjust : {A B D : Type 0} {R : A → B → Type 0} (f : A → D → A) → ((a : A) (b : B) (d : D) → R a b → R (f a d) b) → {xs : List A} {ys : List B} → Each R xs ys → (ds : List D) → Each R (adjust f xs ds) ys
unfolding adjust
each_adjust f h empty ds = empty
each_adjust f h (also r rs) [] = also r rs
each_adjust f h (also r rs) (d ∷ ds) = also (h _ _ d r) (each_adjust f h rs ds)

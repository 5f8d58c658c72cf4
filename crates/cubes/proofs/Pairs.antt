-- Held latches as pairs of bits: what the code does to bytes is what the run does to fields. Assumes nothing.
use mathlib.Core.Path.{◌≡◌, refl, ◌∙◌}
use mathlib.Core.Bool.{Bool, true, false, not, ◌||◌}
use mathlib.Core.List.{List, [], ◌∷◌, zip_with}
use Prim.Native.Nat.{ℕ, zero, suc, ◌+◌, ◌*◌, ◌-◌, ◌/◌, ◌%◌, ◌<◌}
use native.Mathlib.Omega.{arith}
use borrow.Author.Tests.{eqb-true}
use lib.Bits.{bit_and, bit_or, bit_xor, and_block, or_block, xor_block, xor_lt}
use lib.Dec.{eqb}
use lib.ListN.{length, get_or}
use Rattle.three.specs.Lists.{tabulate, adjust}
use Rattle.three.specs.Value.{Three, unknown, code}
use Rattle.three.specs.Cube.{Cube, alike, blank}
use Rattle.three.specs.Record.{byte_of, byte_at}
use Rattle.three.proofs.Bytes.{code_small}
use Rattle.three.proofs.Table.{same_answers}
use Rattle.three.proofs.Fields.{of_two, of_one}
use Rattle.cubes.specs.Run.{hold, differing}
use Rattle.cubes.specs.HeldInCode.{held_pair, held_byte, kept_byte, differing_byte}

-- ---- four pairs, and an operation on bits that goes pair by pair

abbrev four : ℕ → ℕ → ℕ → ℕ → ℕ
four a b c d = ((a * 4 + b) * 4 + c) * 4 + d

module _ (op : ℕ → ℕ → ℕ) (block : (x y r s : ℕ) → r < 4 → s < 4 → op (x * 4 + r) (y * 4 + s) ≡ op x y * 4 + op r s) where
  by_pairs : (a b c d e f g h : ℕ) → b < 4 → c < 4 → d < 4 → f < 4 → g < 4 → h < 4 → op (four a b c d) (four e f g h) ≡ four (op a e) (op b f) (op c g) (op d h)
  by_pairs a b c d e f g h lb lc ld lf lg lh = rw (block _ _ d h ld lh, block _ _ c g lc lg, block a e b f lb lf)

pair_small : (h : Bool) → held_pair h < 4
unfolding held_pair
pair_small true = omega arith
pair_small false = omega arith

byte_four : (a b c d : Three) → byte_of a b c d ≡ four (code a) (code b) (code c) (code d)
unfolding byte_of
byte_four a b c d = omega arith

code_below : (v : Three) → code v < 4
code_below v = omega (arith, code_small v)

-- ---- held latches set to X

get_or_hold : (held : List Bool) (v : Cube) (i : ℕ) → get_or (hold held v) i unknown ≡ blank (get_or v i unknown) (get_or held i false)
unfolding hold adjust blank
get_or_hold [] [] i = refl
get_or_hold (true ∷ hs) [] zero = refl
get_or_hold (false ∷ hs) [] zero = refl
get_or_hold (h ∷ hs) [] (suc i) = get_or_hold hs [] i
get_or_hold [] (x ∷ v) zero = refl
get_or_hold [] (x ∷ v) (suc i) = refl
get_or_hold (h ∷ hs) (x ∷ v) zero = refl
get_or_hold (h ∷ hs) (x ∷ v) (suc i) = get_or_hold hs v i

kept_pair : (v : Three) (h : Bool) → bit_and (code v) (3 - held_pair h) ≡ code (blank v h)
unfolding code held_pair blank
kept_pair v true = eqb-true _ _ (of_one (λ v. eqb (bit_and (code v) (3 - held_pair true)) (code (blank v true))) refl v)
kept_pair v false = eqb-true _ _ (of_one (λ v. eqb (bit_and (code v) (3 - held_pair false)) (code (blank v false))) refl v)

kept_four : (a b c d : Three) (p q r s : Bool)
    → kept_byte (byte_of a b c d) (64 * held_pair p + 16 * held_pair q + 4 * held_pair r + held_pair s) ≡ byte_of (blank a p) (blank b q) (blank c r) (blank d s)
unfolding kept_byte
kept_four a b c d p q r s =
    let rest : 255 - (64 * held_pair p + 16 * held_pair q + 4 * held_pair r + held_pair s) ≡ four (3 - held_pair p) (3 - held_pair q) (3 - held_pair r) (3 - held_pair s) =
    omega (arith, pair_small p, pair_small q, pair_small r, pair_small s) in
    rw (byte_four a b c d, rest, byte_four)
    (by_pairs bit_and (and_block 2) _ _ _ _ _ _ _ _ (code_below b) (code_below c) (code_below d) (omega arith) (omega arith) (omega arith)
    ∙ rw (kept_pair a p, kept_pair b q, kept_pair c r, kept_pair d s))

pub kept_byte_lem : (held : List Bool) (v : Cube) (k : ℕ) → kept_byte (byte_at v k) (held_byte held k) ≡ byte_at (hold held v) k
unfolding byte_at held_byte
kept_byte_lem held v k = simp get_or_hold (kept_four _ _ _ _ _ _ _ _)

-- ---- latches whose value differs are held too

-- a pair that is not 00, as 11
spread : ℕ → ℕ
spread zero = 0
spread (suc p) = 3

spread_byte : (z : ℕ) → z < 256 → 3 * bit_and (bit_or z (z / 2)) 85 ≡ four (spread (z / 64 % 4)) (spread (z / 16 % 4)) (spread (z / 4 % 4)) (spread (z % 4))
unfolding spread tabulate
spread_byte z h = same_answers 0 (λ z. 3 * bit_and (bit_or z (z / 2)) 85) (λ z. four (spread (z / 64 % 4)) (spread (z / 16 % 4)) (spread (z / 4 % 4)) (spread (z % 4))) 256 z refl h

xor_pair : (a b : Three) → bit_xor (code a) (code b) < 4
xor_pair a b = xor_lt 2 (code a) (code b) (omega (arith, code_below a)) (omega (arith, code_below b))

spread_pair : (a b : Three) → spread (bit_xor (code a) (code b)) ≡ held_pair (not (alike a b))
unfolding spread held_pair alike code
spread_pair a b = eqb-true _ _ (of_two (λ a b. eqb (spread (bit_xor (code a) (code b))) (held_pair (not (alike a b)))) refl a b)

differing_four : (a b c d e f g h : Three)
    → differing_byte (byte_of a b c d) (byte_of e f g h) ≡ four (held_pair (not (alike a e))) (held_pair (not (alike b f))) (held_pair (not (alike c g))) (held_pair (not (alike d h)))
unfolding differing_byte
differing_four a b c d e f g h =
    let x = bit_xor (code a) (code e) in
    let y = bit_xor (code b) (code f) in
    let z = bit_xor (code c) (code g) in
    let w = bit_xor (code d) (code h) in
    let whole : bit_xor (byte_of a b c d) (byte_of e f g h) ≡ four x y z w = rw (byte_four a b c d, byte_four e f g h) (by_pairs bit_xor (xor_block 2) _ _ _ _ _ _ _ _ (code_below b) (code_below c) (code_below d) (code_below f) (code_below g) (code_below h)) in
    let p : four x y z w / 64 % 4 ≡ x = omega (arith, xor_pair b f, xor_pair c g, xor_pair d h, xor_pair a e) in
    let q : four x y z w / 16 % 4 ≡ y = omega (arith, xor_pair b f, xor_pair c g, xor_pair d h, xor_pair a e) in
    let r : four x y z w / 4 % 4 ≡ z = omega (arith, xor_pair b f, xor_pair c g, xor_pair d h, xor_pair a e) in
    let s : four x y z w % 4 ≡ w = omega (arith, xor_pair b f, xor_pair c g, xor_pair d h, xor_pair a e) in
    rw whole (spread_byte (four x y z w) (omega (arith, xor_pair b f, xor_pair c g, xor_pair d h, xor_pair a e)) ∙ rw (p, q, r, s, spread_pair a e, spread_pair b f, spread_pair c g, spread_pair d h))

held_or : (h d : Bool) → bit_or (held_pair h) (held_pair d) ≡ held_pair (h || d)
unfolding held_pair
held_or true true = refl
held_or true false = refl
held_or false true = refl
held_or false false = refl

get_or_widened : (held : List Bool) (a b : Cube) → length held ≡ length a → length a ≡ length b → (i : ℕ)
    → get_or (adjust ◌||◌ held (differing a b)) i false ≡ (get_or held i false || not (alike (get_or a i unknown) (get_or b i unknown)))
unfolding adjust differing zip_with alike code
get_or_widened [] [] [] e f i = refl
get_or_widened [] (x ∷ a) b e f i = absurd (omega arith)
get_or_widened (h ∷ hs) [] b e f i = absurd (omega arith)
get_or_widened [] [] (y ∷ b) e f i = absurd (omega arith)
get_or_widened (h ∷ hs) (x ∷ a) [] e f i = absurd (omega arith)
get_or_widened (h ∷ hs) (x ∷ a) (y ∷ b) e f zero = refl
get_or_widened (h ∷ hs) (x ∷ a) (y ∷ b) e f (suc i) = get_or_widened hs a b (omega arith) (omega arith) i

widened_four : (p q r s t u v w : Bool)
    → bit_or (64 * held_pair p + 16 * held_pair q + 4 * held_pair r + held_pair s) (four (held_pair t) (held_pair u) (held_pair v) (held_pair w))
    ≡ 64 * held_pair (p || t) + 16 * held_pair (q || u) + 4 * held_pair (r || v) + held_pair (s || w)
widened_four p q r s t u v w =
    let e : 64 * held_pair p + 16 * held_pair q + 4 * held_pair r + held_pair s ≡ four (held_pair p) (held_pair q) (held_pair r) (held_pair s) = omega arith in
    rw e
    (by_pairs bit_or (or_block 2) _ _ _ _ _ _ _ _ (pair_small q) (pair_small r) (pair_small s) (pair_small u) (pair_small v) (pair_small w)
    ∙ rw (held_or p t, held_or q u, held_or r v, held_or s w) (omega arith))

widened_all : (p q r s : Bool) (a b c d e f g h : Three)
    → bit_or (64 * held_pair p + 16 * held_pair q + 4 * held_pair r + held_pair s) (differing_byte (byte_of a b c d) (byte_of e f g h))
    ≡ 64 * held_pair (p || not (alike a e)) + 16 * held_pair (q || not (alike b f)) + 4 * held_pair (r || not (alike c g)) + held_pair (s || not (alike d h))
widened_all p q r s a b c d e f g h = rw (differing_four a b c d e f g h) (widened_four p q r s _ _ _ _)

pub widened_byte : (held : List Bool) (a b : Cube) → length held ≡ length a → length a ≡ length b → (k : ℕ)
    → bit_or (held_byte held k) (differing_byte (byte_at a k) (byte_at b k)) ≡ held_byte (adjust ◌||◌ held (differing a b)) k
unfolding byte_at held_byte
widened_byte held a b eh ea k =
    let h : ℕ → Bool = λ i. get_or held i false in
    let x : ℕ → Three = λ i. get_or a i unknown in
    let y : ℕ → Three = λ i. get_or b i unknown in
    simp (get_or_widened held a b eh ea)
    (widened_all (h (4 * k)) (h (4 * k + 1)) (h (4 * k + 2)) (h (4 * k + 3)) (x (4 * k)) (x (4 * k + 1)) (x (4 * k + 2)) (x (4 * k + 3)) (y (4 * k)) (y (4 * k + 1)) (y (4 * k + 2)) (y (4 * k + 3)))

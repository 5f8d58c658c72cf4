-- The constraints are read one after the other, and one that is 0 decides; where there is none nothing is blocked. Assumes nothing.
use mathlib.Core.Path.{◌≡◌, refl, sym, ap, ◌∙◌}
use mathlib.Core.Bool.{Bool, true, false, ◌||◌}
use mathlib.Core.List.{List}
use Prim.Native.Nat.{ℕ, zero, suc, ◌+◌, ◌-◌, ◌*◌, ◌<◌, ◌≤◌}
use native.Mathlib.Nat.{one-mul}
use native.Mathlib.Omega.{arith}
use borrow.Author.Tests.{eq-eqb, ne_eqb}
use lib.ListN.{length, get_or, take, drop}
use Rattle.std.specs.Prelude.{MatchBool}
use Rattle.std.proofs.lemmas.List.{get_or_read}
use Rattle.std.specs.List.{AllWithin, HoldsAt}
use Rattle.three.specs.Lists.{tabulate, over}
use Rattle.three.specs.Value.{Three, low, code, ternary}
use Rattle.three.specs.Cube.{Cube, alike}
use Rattle.three.specs.Record.{bytes_for, pack, unpack}
use Rattle.three.specs.RecordInCode.{IsRecord}
use Rattle.three.proofs.Loops.{range_length, range_at}
use Rattle.three.proofs.Pack.{unpack_over}
use Rattle.three.proofs.Soundness.{record_over}
use Rattle.circuit.specs.declared.Counts.{Counts}
use Rattle.circuit.specs.Circuit.{value}
use Rattle.circuit.specs.Table.{constraints_at, circuit_of}
use Rattle.circuit.specs.RulesInCode.{Legal}
use Rattle.pass.specs.ValuesInCode.{literal_values}
use Rattle.pass.proofs.Settling.{literals_readable}
use Rattle.cubes.specs.Run.{some_low, blocked, start}
use Rattle.cubes.proofs.Blocking.{none_counted, never_blocked}
use Rattle.stored.specs.CubesInCode.{start_fields}
use Rattle.stored.proofs.Starting.{start_fields_lem, start_sized}

-- ---- values from a function

low_at : (n : ℕ) (f : ℕ → Three) (i : ℕ) → i < n → alike (f i) low ≡ true → some_low (tabulate n f) ≡ true
unfolding some_low tabulate
low_at zero f i h e = absurd (omega arith)
low_at (suc n) f zero h e = rw e
low_at (suc n) f (suc i) h e = or_true (alike (f 0) low) (low_at n (λ k. f (suc k)) i (omega arith) e)
  where
    or_true : (a : Bool) {b : Bool} → b ≡ true → (a || b) ≡ true
    or_true true e = refl
    or_true false e = e

low_none : (n : ℕ) (f : ℕ → Three) → ((i : ℕ) → i < n → alike (f i) low ≡ false) → some_low (tabulate n f) ≡ false
unfolding some_low tabulate
low_none zero f none = refl
low_none (suc n) f none = rw (none 0 (omega arith)) (low_none n (λ k. f (suc k)) (λ i h. none (suc i) (omega arith)))

-- ---- their words, one after the other: from what a search of them found

-- what the code asks of a word
abbrev pub is_low : List Three → ℕ → Type 0
is_low values x = code (value ternary values x) ≡ 1

module _ (words : List ℕ) (c : Counts) (legal : Legal c words) {first : ℕ} (place : first ≡ constraints_at c) where
  abbrev read : List ℕ
  read = take (first + c.constraints - first) (drop first words)

  fits : first + c.constraints ≤ length words
  fits = omega (arith, place, legal.long)

  many : length read ≡ c.constraints
  many = range_length first c.constraints words fits

  word_at : (k : ℕ) → k < c.constraints → get_or words (constraints_at c + 1 * k) 0 ≡ get_or read k 0
  word_at k h = sym (range_at first c.constraints words fits k 0 h ∙ rw one-mul (ap (λ (p : ℕ). get_or words (p + k) 0) place))

  -- its word is a literal
  pub constraint_word : {x : ℕ} (k : ℕ) → k < length read → x ≡ get_or read k x → x < 8192
  constraint_word {x} k h e =
      let below : k < c.constraints = omega (arith, many) in
      let small = (literals_readable c words legal (constraints_at c) c.constraints (omega arith) (omega arith)).small k below in
      rw (word_at k below ∙ sym (get_or_read read k x h e 0)) at small

  pub any_low : (values : List Three) (r : Bool) → MatchBool r ((k : ℕ) × (k < length read) × HoldsAt (is_low values) read k) (AllWithin (λ x. is_low values x → ⊥) read 0 (length read))
      → r ≡ some_low (literal_values values words (constraints_at c) 1 c.constraints)
  unfolding literal_values alike code
  any_low values true (k, l, h) =
      let below : k < c.constraints = omega (arith, many) in
      sym (low_at c.constraints _ k below (eq-eqb _ 1 (ap (λ (x : ℕ). code (value ternary values x)) (word_at k below) ∙ h 0)))
  any_low values false h =
      sym (low_none c.constraints _ (λ k l. ne_eqb _ 1 (λ z. h k 0 (omega arith) (omega (arith, many)) (ap (λ (x : ℕ). code (value ternary values x)) (sym (word_at k l)) ∙ z))))

-- ---- none at all, and cube 0

module _ (c : Counts) (words : List ℕ) where
  pub free_of : c.constraints ≡ 0 → (a : Cube) → false ≡ blocked (circuit_of c words) a
  free_of none a = sym (never_blocked (circuit_of c words) (none_counted c words none) a)

  module _ (d bytes : List ℕ) (stored : bytes ≡ over (pack (start_fields words c.latches)) d) where
    pub start_record : bytes_for c.latches ≤ length d → IsRecord c.latches bytes
    start_record room = rw stored (record_over c.latches (start_fields words c.latches) d (start_sized words c.latches) room)

    pub start_is_blocked : {r : Bool} → r ≡ blocked (circuit_of c words) (unpack c.latches bytes) → r ≡ blocked (circuit_of c words) (start (circuit_of c words))
    start_is_blocked e =
        let read : unpack c.latches bytes ≡ start (circuit_of c words) = rw stored (unpack_over c.latches _ d (start_sized words c.latches)) ∙ sym (start_fields_lem c words) in
        e ∙ ap (blocked (circuit_of c words)) read

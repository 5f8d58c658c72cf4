-- Laws of differences and gates put into a buffer. Assumes nothing.
use mathlib.Core.Path.{◌≡◌, refl, ◌∙◌}
use mathlib.Core.List.{List}
use Prim.Native.Nat.{ℕ, ◌+◌, ◌-◌, ◌/◌, ◌%◌, ◌≤◌, ◌<◌}
use native.Mathlib.Numerals.{add-one}
use native.Mathlib.Omega.{arith}
use lib.ListN.{length, set, length-set}
use Rattle.putting.specs.PutInCode.{Put}
use Rattle.binary.specs.Difference.{groups}
use Rattle.binary.specs.Gate.{differences, gate_bytes}
use Rattle.binary.proofs.Differences.{groups_one, groups_two}
use Rattle.binary_writer.specs.declared.GateDifferences.{GateDifferences}
use Rattle.binary_writer.specs.BinaryWriterInCode.{Differ, SmallGate, both_bytes}

-- ---- a difference

pub length_one : (n : ℕ) → n < 128 → length (groups n) ≡ 1
length_one n h = rw (groups_one n h)

pub length_two : (n : ℕ) → 128 ≤ n → n < 16384 → length (groups n) ≡ 2
length_two n h k = rw (groups_two n h k)

pub put_one : (d : List ℕ) (at n : ℕ) → n < 128 → Put d at (groups n) (set d at n) (at + 1)
put_one d at n h = rw (groups_one n h) (record { same = refl; after = refl; long = length-set d at n })

pub put_two : (d : List ℕ) (at n : ℕ) → 128 ≤ n → n < 16384 → Put d at (groups n) (set (set d at (128 + n % 128)) (at + 1) (n / 128)) (at + 2)
put_two d at n h k = rw (groups_two n h k) (record {
  same = rw add-one;
  after = refl;
  long = length-set (set d at (128 + n % 128)) (at + 1) (n / 128) ∙ length-set d at (128 + n % 128);
})

-- ---- a gate: the larger operand comes first

pub right_larger : (own left right : ℕ) → left < right → Differ own left right (record { first = own - right; second = right - left })
unfolding differences
right_larger own left right h = record { first = omega arith; second = omega arith }

pub left_larger : (own left right : ℕ) → right ≤ left → Differ own left right (record { first = own - left; second = left - right })
unfolding differences
left_larger own left right h = record { first = omega arith; second = omega arith }

module _ (own left right : ℕ) {d : GateDifferences} (e : Differ own left right d) where
  pub bytes_gate : both_bytes d ≡ gate_bytes (differences own left right)
  unfolding gate_bytes
  bytes_gate = rw (e.first, e.second)

  pub small_gate : left < own → right < own → own < 16384 → SmallGate d
  unfolding differences
  small_gate p q h = record { first = omega (arith, e.first); second = omega (arith, e.second) }

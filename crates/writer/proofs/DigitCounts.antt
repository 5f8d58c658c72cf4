-- How many digits a number has, by its size. Assumes nothing.
use mathlib.Core.Path.{◌≡◌}
use Prim.Native.Nat.{ℕ, ◌/◌, ◌≤◌, ◌<◌}
use native.Mathlib.Omega.{arith}
use lib.ListN.{length}
use Rattle.text.specs.Decimal.{decimal}
use Rattle.text.proofs.Decimals.{length_small, length_more}

pub digits_one : (n : ℕ) → n < 10 → (1 ≡ length (decimal n)) × (1 ≤ 4)
digits_one n h = (omega (arith, length_small n h), omega arith)

pub digits_two : (n : ℕ) → 10 ≤ n → n < 100 → (2 ≡ length (decimal n)) × (2 ≤ 4)
digits_two n l h = (omega (arith, length_more n (omega arith), digits_one (n / 10) (omega arith)), omega arith)

pub digits_three : (n : ℕ) → 100 ≤ n → n < 1000 → (3 ≡ length (decimal n)) × (3 ≤ 4)
digits_three n l h = (omega (arith, length_more n (omega arith), digits_two (n / 10) (omega arith) (omega arith)), omega arith)

pub digits_four : (n : ℕ) → 1000 ≤ n → n < 10000 → (4 ≡ length (decimal n)) × (4 ≤ 4)
digits_four n l h = (omega (arith, length_more n (omega arith), digits_three (n / 10) (omega arith) (omega arith)), omega arith)

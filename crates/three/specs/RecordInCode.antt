-- Tables that the code looks answers up in, and what it asks of a given record; nothing here has to be believed. Assumes nothing.
use Rattle.std.specs.Prelude.{◌≡◌, true, cond, List, [], ◌∷◌, ℕ, zero, suc, ◌≤◌, length}
use Rattle.three.specs.Lists.{tabulate}
use Rattle.three.specs.Value.{code, decode, both}
use Rattle.three.specs.Record.{bytes_for, pairs, bad, sound}

-- the gate rule as a three by three table of answers, all in their two bits
unfoldable pub gate_table : List (List ℕ)
gate_table = tabulate 3 (λ a. tabulate 3 (λ b. code (both (decode a) (decode b))))

-- how many pairs are known: not 00
unfoldable pub known_pairs : List ℕ → ℕ
known_pairs [] = 0
known_pairs (p ∷ ps) = elim p [ zero ↦ known_pairs ps | suc q ↦ suc (known_pairs ps) ]

-- what a record byte is judged to be: the count of its known fields, or 255 where some pair is 11
unfoldable pub judged : ℕ → ℕ
judged byte = cond (bad (pairs byte)) 255 (known_pairs (pairs byte))

-- what each of the 256 bytes is judged to be
unfoldable pub known_table : List ℕ
known_table = tabulate 256 judged

-- the bytes open with a record of f fields
pub record IsRecord (f : ℕ) (bytes : List ℕ) : Type 0 where
  pub fits : bytes_for f ≤ length bytes
  pub good : sound f bytes ≡ true

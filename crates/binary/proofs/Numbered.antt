-- No binary text is refused by 0, so that 0 always says what was read, and what was read keeps the rules. Assumes nothing.
use mathlib.Core.Path.{◌≡◌}
use mathlib.Core.List.{List, [], ◌∷◌}
use Prim.Native.Nat.{ℕ}
use native.Mathlib.Omega.{arith}
use Rattle.circuit.specs.Table.{Kind, input, latch, literal, gate, kinds}
use Rattle.text.specs.Line.{newline, read_line}
use Rattle.text.specs.Outcome.{Outcome, accepted, refused}
use Rattle.text.specs.Text.{Content}
use Rattle.text.proofs.Parts.{by_part}
use Rattle.text.proofs.Numbers.{HasNumber, tested_numbered, onward_numbered, opened_numbered}
use Rattle.text.proofs.RoundTrip.{Kept}
use Rattle.binary.specs.Gate.{read_gate}
use Rattle.binary.specs.Binary.{read_line_row, read_gate_row, read_row, then, read_rows, read_binary}
use Rattle.binary.proofs.ReadRows.{BinaryRead, binary_read}

then_numbered : {A B : Type 0} (o : Outcome A) (f : A → Outcome B) → HasNumber o → ((a : A) → HasNumber (f a)) → HasNumber (then o f)
unfolding then
then_numbered (accepted a) f h g = g a
then_numbered (refused n) f h g = h

line_numbered : (most : ℕ) (k : Kind) (t : List ℕ) → HasNumber (read_line_row most k t)
unfolding read_line_row
line_numbered most k t = by_part (read_line newline t)
    (λ ns rest e. rw (read_line_row, e) (tested_numbered _ _ tt))
    (λ e. rw (read_line_row, e) (omega arith))

gate_numbered : (own : ℕ) (t : List ℕ) → HasNumber (read_gate_row own t)
unfolding read_gate_row
gate_numbered own t = by_part (read_gate t)
    (λ d rest e. rw (read_gate_row, e) (tested_numbered _ _ tt))
    (λ e. rw (read_gate_row, e) (omega arith))

row_numbered : (most : ℕ) (k : Kind) (t : List ℕ) → HasNumber (read_row most k t)
unfolding read_row
row_numbered most (input own) t = tt
row_numbered most (latch own) t = line_numbered most (latch own) t
row_numbered most literal t = line_numbered most literal t
row_numbered most (gate own) t = gate_numbered own t

rows_numbered : (most : ℕ) (ks : List Kind) (t : List ℕ) → HasNumber (read_rows most ks t)
unfolding read_rows
rows_numbered most [] t = tt
rows_numbered most (k ∷ ks) t = then_numbered (read_row most k t) _ (row_numbered most k t) (λ r. onward_numbered _ _ (rows_numbered most ks r.rest))

pub binary_numbered : (t : List ℕ) → HasNumber (read_binary t)
unfolding read_binary
binary_numbered t = opened_numbered _ _ _ (λ c r. rows_numbered _ (kinds c) r) t

pub binary_kept : (t : List ℕ) (c : Content) → read_binary t ≡ accepted c → Kept c
binary_kept t c e = let r : BinaryRead c = binary_read t e in record { legal = r.legal; whole = r.whole }

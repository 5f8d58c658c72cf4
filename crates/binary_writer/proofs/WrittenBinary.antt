-- What is written is its first line, then a block for the latches, the lines of one literal and the gates. Assumes nothing.
use mathlib.Core.Path.{◌≡◌, refl, sym}
use mathlib.Core.List.{List, [], ◌++◌}
use Prim.Native.Nat.{ℕ, zero, suc, ◌+◌}
use native.Mathlib.Nat.{add-zero}
use native.Mathlib.Omega.{arith}
use lib.ListN.{length, drop}
use Rattle.circuit.specs.declared.Counts.{Counts}
use Rattle.circuit.specs.Table.{several, width}
use Rattle.text.specs.declared.LineKind.TheVariants.{Input}
use Rattle.text.specs.KindsInCode.{coded}
use Rattle.text.specs.Line.{line_text}
use Rattle.text.specs.Text.{head_numbers, write_rows}
use Rattle.putting.specs.PutInCode.{Put}
use Rattle.writer.specs.WriterInCode.{run}
use Rattle.writer.proofs.WrittenText.{latch_lines, lamp_lines, gate_lines, text_length, put_blocks}
use Rattle.binary.specs.Binary.{binary_magic, row_bytes, write_binary}

-- nothing for an input
rows_none : (own n : ℕ) (ws : List ℕ) → write_rows row_bytes (several (coded Input) own n []) ws ≡ []
unfolding several write_rows row_bytes coded width
rows_none own zero ws = refl
rows_none own (suc n) ws = rows_none (own + 2) n ws

no_inputs : (own n : ℕ) (words : List ℕ) (at : ℕ) → run row_bytes Input own n words at ≡ []
unfolding run
no_inputs own n words at = rows_none own n (drop at words)

put_none : (d : List ℕ) (p : ℕ) → Put d p [] d p
put_none d p = record { same = refl; after = sym (add-zero p); long = refl }

module _ (c : Counts) (table : List ℕ) where
  -- it is as long as these parts
  pub binary_length : length (write_binary c table)
      ≡ length (binary_magic ++ line_text (head_numbers c)) + length (latch_lines binary_magic row_bytes c table) + length (lamp_lines binary_magic row_bytes c table) + length (gate_lines binary_magic row_bytes c table)
  binary_length = omega (arith, text_length binary_magic row_bytes c table, none_long)
    where
      none_long : length (run row_bytes Input 2 c.inputs table 0) ≡ 0
      none_long = rw (no_inputs 2 c.inputs table 0)

  -- who puts these parts, one behind the other, has put it
  pub put_rows : {d e g h t : List ℕ} {p r u v : ℕ} → Put d 0 (binary_magic ++ line_text (head_numbers c)) e p
      → Put e p (latch_lines binary_magic row_bytes c table) g r → Put g r (lamp_lines binary_magic row_bytes c table) h u → Put h u (gate_lines binary_magic row_bytes c table) t v → Put d 0 (write_binary c table) t v
  put_rows {e = e} {p = p} first latches lamps gates = put_blocks binary_magic row_bytes c table first (rw (no_inputs 2 c.inputs table 0) (put_none e p)) latches lamps gates

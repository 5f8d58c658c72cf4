-- What is written is its first line and then a block for each kind. Assumes nothing.
use mathlib.Core.Path.{◌≡◌, ap, ◌∙◌}
use mathlib.Core.List.{List, [], ◌++◌, append_assoc}
use Prim.Native.Nat.{ℕ, zero, suc, ◌+◌, ◌*◌}
use native.Mathlib.Nat.{zero-mul, suc-mul}
use native.Mathlib.Omega.{arith}
use Rattle.std.proofs.Common.{rules}
use lib.ListN.{length, length-append, drop}
use lib.Seq.{drop-drop}
use Rattle.circuit.specs.declared.Counts.{Counts}
use Rattle.circuit.specs.Table.{Kind, several, kinds, width, literals, literals_at, gates_at}
use Rattle.text.specs.Line.{line_text}
use Rattle.text.specs.Text.{head_numbers, write_rows, write_opened}
use Rattle.text.specs.declared.LineKind.{LineKind}
use Rattle.text.specs.declared.LineKind.TheVariants.{Input, Latch, Lamp, Gate}
use Rattle.text.specs.KindsInCode.{coded}
use Rattle.putting.specs.PutInCode.{Put}
use Rattle.writer.specs.WriterInCode.{rows_of, run, block, Lines, Writable}
use Rattle.putting.proofs.Putting.{put_then}
use Rattle.text.proofs.Coding.{width_alike}

module _ (each : Kind → List ℕ → List ℕ) where
  body_split : (k : LineKind) (own n : ℕ) (ks : List Kind) (ws : List ℕ)
      → write_rows each (several (coded k) own n ks) ws ≡ write_rows each (several (coded k) own n []) ws ++ write_rows each ks (drop (n * width (coded k 0)) ws)
  unfolding several write_rows
  body_split k own zero ks ws = rw zero-mul
  body_split k own (suc n) ks ws =
      let w : width (coded k own) + n * width (coded k 0) ≡ suc n * width (coded k 0) = omega (arith, width_alike k own, suc-mul n (width (coded k 0))) in
      rw (body_split k (own + 2) n ks (drop (width (coded k own)) ws), drop-drop, w, append_assoc)

  block_split : (k : LineKind) (own n : ℕ) (ks : List Kind) (table : List ℕ) (at next : ℕ) → at + n * width (coded k 0) ≡ next
      → write_rows each (several (coded k) own n ks) (drop at table) ≡ run each k own n table at ++ write_rows each ks (drop next table)
  unfolding run
  block_split k own n ks table at next e = rw (body_split k own n ks (drop at table), drop-drop, e)

module _ (opening : List ℕ) (each : Kind → List ℕ → List ℕ) (c : Counts) (table : List ℕ) where
  abbrev pub input_lines : List ℕ
  input_lines = block each (rows_of c Input) table

  abbrev pub latch_lines : List ℕ
  latch_lines = block each (rows_of c Latch) table

  abbrev pub lamp_lines : List ℕ
  lamp_lines = block each (rows_of c Lamp) table

  abbrev pub gate_lines : List ℕ
  gate_lines = block each (rows_of c Gate) table

  body_blocks : write_rows each (kinds c) table ≡ input_lines ++ (latch_lines ++ (lamp_lines ++ gate_lines))
  unfolding kinds coded width run
  body_blocks =
      block_split each Input 2 c.inputs _ table 0 0 (omega arith)
      ∙ ap (λ t. input_lines ++ t) (block_split each Latch (2 + 2 * c.inputs) c.latches _ table 0 (literals_at c) (omega arith)
      ∙ ap (λ t. latch_lines ++ t) (block_split each Lamp 0 (literals c) _ table (literals_at c) (gates_at c) (omega arith)))

  text_blocks : write_opened opening each c table ≡ ((((opening ++ line_text (head_numbers c)) ++ input_lines) ++ latch_lines) ++ lamp_lines) ++ gate_lines
  unfolding write_opened
  text_blocks = rw body_blocks (simp append_assoc)

  pub body_length : length (write_rows each (kinds c) table) ≡ length input_lines + length latch_lines + length lamp_lines + length gate_lines
  body_length = rw body_blocks (simp length-append (omega arith))

  pub text_length : length (write_opened opening each c table)
      ≡ length (opening ++ line_text (head_numbers c)) + length input_lines + length latch_lines + length lamp_lines + length gate_lines
  text_length = rw text_blocks (simp length-append)

  -- by its first four bytes
  pub opened_length : length opening ≡ 4 → length (write_opened opening each c table) ≡ 4 + length (line_text (head_numbers c)) + length (write_rows each (kinds c) table)
  unfolding write_opened
  opened_length e = simp length-append (omega (arith, e))

  pub put_blocks : {d e f g h t : List ℕ} {p q r u v : ℕ} → Put d 0 (opening ++ line_text (head_numbers c)) e p
      → Put e p input_lines f q → Put f q latch_lines g r → Put g r lamp_lines h u → Put h u gate_lines t v → Put d 0 (write_opened opening each c table) t v
  put_blocks first inputs latches lamps gates = rw text_blocks (put_then (put_then (put_then (put_then first inputs) latches) lamps) gates)

module _ (c : Counts) (table : List ℕ) (ready : Writable c table) where
  pub lines_there : (kind : LineKind) → Lines (rows_of c kind) table
  unfolding coded width
  lines_there Input = record { literals = omega (arith, ready.bounded); there = omega arith; small = λ k h. absurd (omega arith); below = λ e. search rules }
  lines_there Latch = record { literals = omega (arith, ready.bounded); there = omega (arith, ready.long); small = λ k h. ready.small k (omega arith); below = λ e. search rules }
  lines_there Lamp = record { literals = omega (arith, ready.bounded); there = omega (arith, ready.long); small = λ k h. ready.small k (omega arith); below = λ e. search rules }
  lines_there Gate = record { literals = omega (arith, ready.bounded); there = omega (arith, ready.long); small = λ k h. ready.small k (omega arith); below = λ e. ready.below }

-- What is printed, from what the reader and the writer answer: the buffers that the program lends are long enough for any circuit, and the text reads as what was
-- read. Assumes nothing.
use mathlib.Core.Path.{◌≡◌, sym, ap, ◌∙◌}
use mathlib.Core.List.{List}
use Prim.Native.Nat.{ℕ, ◌≤◌}
use native.Mathlib.Omega.{arith}
use lib.ListN.{length, take, length-append, length-drop}
use lib.Seq.{take-length}
use Rattle.three.specs.Lists.{over}
use Rattle.circuit.specs.declared.Counts.{Counts}
use Rattle.circuit.specs.Refusal.{left_by}
use Rattle.text.specs.Outcome.{accepted}
use Rattle.text.specs.Text.{write_text, Content, read_text}
use Rattle.text.specs.Calls.{Writing}
use Rattle.text.proofs.Answers.{write_fits}
use Rattle.text.proofs.RoundTrip.{carries_written, round_trip}
use Rattle.text.proofs.Roomy.{most_words, Read, roomy_refused, roomy_accepted}
use Rattle.writer.proofs.WrittenAnswers.{text_within}
use Rattle.binary.specs.Binary.{read_binary}
use Rattle.binary.specs.Calls.{BinaryReading}
use Rattle.binary.proofs.Numbered.{binary_numbered, binary_kept}
use Rattle.reporting.specs.Reporting.{refusing}
use Rattle.reporting.proofs.Reading.{accepted_table}
use Rattle.converter.specs.Converter.{converted, Converted}

module _ (binary table : List ℕ) (room : most_words ≤ length table) {number : ℕ} {counts : Counts} {table' : List ℕ} (reading : BinaryReading binary table number counts table') where
  pub convert_refused : (number ≡ 0 → ⊥) → refusing number ≡ converted binary
  unfolding converted
  convert_refused h = let e = roomy_refused (read_binary binary) (binary_numbered binary) (binary_kept binary) table room reading h in rw (converted, e)

  pub convert_read : number ≡ 0 → Read (read_binary binary) counts table'
  convert_read z = roomy_accepted (read_binary binary) (binary_numbered binary) (binary_kept binary) table room reading z

pub never_refused : {buffer : List ℕ} {counts : Counts} {table : List ℕ} {number bytes : ℕ} {buffer' : List ℕ} (binary : List ℕ) → Read (read_binary binary) counts table → 60000 ≤ length buffer
    → Writing counts table buffer number bytes buffer' → number ≡ 0
never_refused {buffer} {counts} {table} binary read room w =
    let legal = accepted_table read in
    w.answers ∙ sym (write_fits counts table (write_text counts table) buffer legal (omega (arith, text_within counts table legal, room)))

pub converted_written : {binary buffer : List ℕ} {counts : Counts} {table : List ℕ} {number bytes : ℕ} {buffer' : List ℕ} → Read (read_binary binary) counts table → 60000 ≤ length buffer
    → Writing counts table buffer number bytes buffer' → Converted binary buffer bytes buffer'
unfolding converted left_by over
converted_written {binary} {buffer} {counts} {table} read room w =
    let short = text_within counts table (accepted_table read) in
    let z = never_refused binary read room w in
    let same : write_text counts table ≡ converted binary = rw (converted, read.is, read.counts_are) (carries_written read.carries) in
    let returns : _ ≡ length (write_text counts table) = rw z at w.returns in
    let fills : _ ≡ over (write_text counts table) buffer = rw z at w.fills in
    record { returns = returns ∙ ap length same; fills = fills ∙ ap (λ (t : List ℕ). over t buffer) same; fits = rw fills (simp (length-append, length-drop) (omega (arith, returns, short, room))) }

-- what is printed for a circuit is read as it, so its report is that on the circuit
pub reads_alike : (binary : List ℕ) (c : Content) → read_binary binary ≡ accepted c → read_text (converted binary) ≡ accepted c
unfolding converted
reads_alike binary c e =
    let kept = binary_kept binary c e in
    let words : take (length c.words) c.words ≡ c.words = take-length c.words in
    rw (converted, e) (rw (← kept.whole, words) at (round_trip c.counts c.words kept.legal))

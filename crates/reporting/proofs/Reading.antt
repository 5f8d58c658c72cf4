-- What is said of what the reader answers with a table that is long enough for any circuit: the text's own refusal, or a table that opens with its circuit. Assumes nothing.
use mathlib.Core.Path.{◌≡◌, sym, ap, ap₂, ◌∙◌}
use mathlib.Core.List.{List}
use Prim.Native.Nat.{ℕ, ◌/◌, ◌≤◌}
use native.Mathlib.Omega.{arith}
use lib.ListN.{length}
use native.Mathlib.Nat.{zero-add}
use Rattle.three.specs.Lists.{over}
use Rattle.circuit.specs.declared.Counts.{Counts}
use Rattle.circuit.specs.Circuit.{Circuit}
use Rattle.circuit.specs.Refusal.{refusal, left_by}
use Rattle.circuit.specs.Table.{circuit_of, lamp_tests, circuit_tests}
use Rattle.circuit.specs.RulesInCode.{Bounded}
use Rattle.circuit.proofs.Beyond.{circuit_front}
use Rattle.text.specs.Outcome.{Outcome, accepted}
use Rattle.text.specs.Text.{Content, read_text}
use Rattle.text.specs.Calls.{Reading}
use Rattle.text.proofs.Endings.{describes}
use Rattle.text.proofs.RoundTrip.{Kept}
use Rattle.text.proofs.Numbers.{read_numbered}
use Rattle.text.proofs.Roomy.{most_words, Read, roomy_refused, roomy_accepted}
use Rattle.putting.specs.PutInCode.{Put}
use Rattle.putting.proofs.Putting.{put_over}
use Rattle.cubes.specs.Buffer.{cube_bytes}
use Rattle.cubes.specs.Run.{run}
use Rattle.reporting.specs.Reporting.{Saying, refusing, of_run, of_text}
use Rattle.reporting.specs.ReportingInCode.{of_outcome}

-- one that is put under another name
pub put_is : {out out' : List ℕ} {r : ℕ} {report report' : List ℕ} → report ≡ report' → Put out 0 report out' r × (r ≤ length out) → Put out 0 report' out' r × (r ≤ length out)
put_is {out} {out'} {r} e p = rw e at p

-- what it leaves in the buffer, for a contract
pub put_front : {whole whole' out out' : List ℕ} {r : ℕ} → whole ≡ whole' → Put out 0 whole out' r × (r ≤ length out) → (r ≡ length whole') × (out' ≡ over whole' out) × (r ≤ length out')
put_front {whole} {out = out} e p =
    (p.0.after ∙ zero-add (length whole) ∙ ap length e, put_over p.0 (omega (arith, p.0.after, p.1)) ∙ ap (λ (l : List ℕ). over l out) e, omega (arith, p.1, p.0.long))

-- ---- what is read

module _ (text table : List ℕ) (room : most_words ≤ length table) {number : ℕ} {counts : Counts} {table' : List ℕ} (reading : Reading text table number counts table') where
  kept : (c : Content) → read_text text ≡ accepted c → Kept c
  kept c e = let d = describes text e in record { legal = d.legal; whole = d.whole }

  -- a refusal is the text's own
  pub read_refused : (say : Saying) → (number ≡ 0 → ⊥) → refusing number ≡ of_text say text
  unfolding of_text
  read_refused say h = ap (of_outcome say) (sym (roomy_refused (read_text text) (read_numbered text) kept table room reading h))

  pub read_accepted : number ≡ 0 → Read (read_text text) counts table'
  read_accepted z = roomy_accepted (read_text text) (read_numbered text) kept table room reading z

pub few : {o : Outcome Content} {counts : Counts} {table : List ℕ} → Read o counts table → Bounded counts
few read = rw read.counts_are read.carries.few

-- ---- what was read, run

module _ {o : Outcome Content} {counts : Counts} {table : List ℕ} (read : Read o counts table) where
  pub accepted_table : 0 ≡ refusal (circuit_tests counts table)
  accepted_table = rw read.counts_are read.carries.legal

  same_circuit : circuit_of counts table ≡ circuit_of read.content.counts read.content.words
  same_circuit = ap (λ (k : Counts). circuit_of k table) read.counts_are ∙ sym (circuit_front read.content.counts table) ∙ ap (circuit_of read.content.counts) read.carries.front

  pub run_read : (say : Saying) → of_run say (record { counts = counts; words = table }) ≡ of_outcome say o
  unfolding of_run
  run_read say =
      ap₂ (λ (k : Counts) (b : Circuit). left_by (refusal (lamp_tests k)) (say b (run b 16 (65536 / cube_bytes k.latches))) (refusing (refusal (lamp_tests k)))) read.counts_are same_circuit
      ∙ ap (of_outcome say) (sym read.is)
